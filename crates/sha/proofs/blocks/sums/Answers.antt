use Rattle.std.proofs.Common.{rules}
use Rattle.sha.proofs.Turns.{sums_are}
use Rattle.sha.proofs.blocks.sums.Goals as goal

pub returns : goal.returns
returns c = sums_are c.args.h.now c.args.v.now c.from_fn.result (search rules) (λ i l. let k = c.from_fn.ensures.items.at i 0 l in search rules)
