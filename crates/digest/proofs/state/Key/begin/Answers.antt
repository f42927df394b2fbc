use Rattle.std.proofs.Common.{rules}
use Rattle.digest.proofs.Parts.{begun}
use Rattle.digest.proofs.state.Key.begin.Goals as goal

pub returns-clause-taken : goal.returns-clause-taken
returns-clause-taken c key p = search (rules, begun)
