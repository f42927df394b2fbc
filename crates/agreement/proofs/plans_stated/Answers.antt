use Rattle.agreement.proofs.Growing.{plans_sound}
use Rattle.agreement.proofs.plans_stated.Goals as goal

pub returns : goal.returns
returns c = plans_sound
