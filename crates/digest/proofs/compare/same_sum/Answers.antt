use Rattle.std.proofs.Common.{◌∙◌, eq-eqb}
use Rattle.digest.proofs.Sums.{none_if_same}
use Rattle.digest.proofs.compare.same_sum.Goals as goal

pub returns-clause-found : goal.returns-clause-found
returns-clause-found c e = eq-eqb _ _ (c.difference.ensures ∙ none_if_same c.args.a.now c.args.b.now e)
