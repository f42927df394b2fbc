use Rattle.std.proofs.Common.{rules}
use Rattle.refinement.proofs.Carrying.{stepped_carried}
use Rattle.refinement.proofs.state.Sea.step.Goals as goal

pub returns-in-Some-act-clause-happens : goal.returns-in-Some-act-clause-happens
returns-in-Some-act-clause-happens c = search rules

pub returns-in-Some-act-clause-carried : goal.returns-in-Some-act-clause-carried
returns-in-Some-act-clause-carried c = stepped_carried _ _ _ _ (returns-in-Some-act-clause-happens c)
