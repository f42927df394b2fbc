use Rattle.std.proofs.Common.{◌≡◌, ◌∙◌, rules, arith, drop, Err, vec_items, ◌+◌, ◌*◌}
use Rattle.std.proofs.lemmas.Grind.{common_steps}
use Rattle.lines.specs.declared.faults.LineFault.TheVariants.{NotHex}
use Rattle.lines.specs.Hex.{decoded}
use Rattle.lines.proofs.Pairs.{bad_second}
use Rattle.lines.proofs.hex.decode.Goals as goal

pub returns-in_err-low : goal.returns-in_err-low
returns-in_err-low c =
    let fault : decoded (c.args.start + 1) (drop c.args.start c.args.line.now) ≡ Err (NotHex (c.args.start + 2 * c.loop-i.i + 1 + 1)) =
    c.loop-i.invariant ∙ bad_second (vec_items c.loop-i.bytes) c.args.start c.args.line.now c.pairs_from.result.0.now c.pairs_from.result.1.now c.pairs_from.ensures c.loop-i.i c.loop-i-test.true c.in_ok-high.high (search rules) (search rules) in
    grind (arith, common_steps, fault)
