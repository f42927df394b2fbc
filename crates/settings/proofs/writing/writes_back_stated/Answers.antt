use Rattle.settings.proofs.Taken.{writes_back}
use Rattle.settings.proofs.writing.writes_back_stated.Goals as goal

pub returns : goal.returns
returns c = writes_back
