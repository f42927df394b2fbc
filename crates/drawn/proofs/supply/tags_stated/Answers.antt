use Rattle.drawn.proofs.Zeros.{tags_are_tags}
use Rattle.drawn.proofs.supply.tags_stated.Goals as goal

pub returns : goal.returns
returns c = tags_are_tags
