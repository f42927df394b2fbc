use Rattle.cases.proofs.Cases.{cases}
use Rattle.cases.proofs.table.cases_hold.Goals as goal

pub returns : goal.returns
returns c = cases
