use Rattle.std.proofs.Common.{rules, ◌∙◌, arith}
use Rattle.std.specs.Simd.{first_chunks}
use Rattle.std.proofs.lemmas.Iterator.{YieldsList-from_slice, YieldsList-from_zip}
use Rattle.std.proofs.lemmas.Iterator.Consumers.{YieldsList-at, fold_from_yields_List}
use Rattle.sha.proofs.Rounds.{rounds_by, rounds_of_eights}
use Rattle.sha.proofs.blocks.rounds.Goals as goal

pub returns : goal.returns
returns c =
    let ks = c.args.k.now in
    let ws = c.args.w.now in
    let chain = YieldsList-from_zip (YieldsList-at c.zip.ensures.first (YieldsList-from_slice (first_chunks 8 8 ks) (search rules))) (YieldsList-from_slice (first_chunks 8 8 ws) (c.zip.ensures.second.0 ∙ search rules)) in
    fold_from_yields_List _ (λ x p. rounds_by x p.0 p.1) c.args.v c.fold.result c.fold.ensures.ran chain (λ a x b q k. search rules)
    ∙ rounds_of_eights ks ws c.args.v (omega arith) (omega arith)
