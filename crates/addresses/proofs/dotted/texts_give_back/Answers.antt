use Rattle.addresses.proofs.Back.{texts_back}
use Rattle.addresses.proofs.dotted.texts_give_back.Goals as goal

pub returns : goal.returns
returns c = texts_back
