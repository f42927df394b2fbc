use Rattle.std.proofs.Common.{rules}
use Rattle.refinement.proofs.Carrying.{played_carried}
use Rattle.refinement.proofs.state.Sea.play.Goals as goal

pub returns-then-is_err-clause-played : goal.returns-then-is_err-clause-played
returns-then-is_err-clause-played c = search rules

pub returns-then-is_err-clause-carried : goal.returns-then-is_err-clause-carried
returns-then-is_err-clause-carried c = played_carried _ _ _ _ (returns-then-is_err-clause-played c)

pub returns-clause-played : goal.returns-clause-played
returns-clause-played c = search rules

pub returns-clause-carried : goal.returns-clause-carried
returns-clause-carried c = played_carried _ _ _ _ (returns-clause-played c)
