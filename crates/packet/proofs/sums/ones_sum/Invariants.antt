use Rattle.std.proofs.Common.{◌≡◌, ◌*◌, drop}
use Rattle.packet.specs.Sums.{ones_sum}
use Rattle.packet.proofs.sums.ones_sum.Given as goal

-- the sum so far, and the pairs from here on, give the sum of all
abbrev pub invariant-loop-high : goal.invariant-loop-high
invariant-loop-high l = ones_sum l.sum (drop (l.high-index * 2) l.bytes) ≡ ones_sum 0 l.bytes
