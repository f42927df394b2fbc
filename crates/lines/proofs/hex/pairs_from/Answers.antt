use Rattle.std.proofs.Common.{arith, ◌≡◌, drop}
use Rattle.std.proofs.lemmas.Grind.{common_steps}
use Rattle.lines.proofs.Pairs.{cut}
use Rattle.lines.proofs.hex.pairs_from.Goals as goal

pub returns : goal.returns
returns c =
    let text : c.unwrap_or.result.now ≡ drop c.args.start c.args.line.now = grind (arith, common_steps) in
    rw (c.as_chunks.ensures.front, c.as_chunks.ensures.back, text) (cut c.args.line.now c.args.start)
