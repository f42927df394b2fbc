use Rattle.agreement.proofs.Drafted.{drafts_sound}
use Rattle.agreement.proofs.drafts_stated.Goals as goal

pub returns : goal.returns
returns c = drafts_sound
