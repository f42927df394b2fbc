use mathlib.Core.Path.{◌≡◌}
use Prim.Native.Nat.{◌-◌, ◌*◌}
use Rattle.sha.specs.Sha256.{extended}
use Rattle.sha.proofs.blocks.extend.Given as goal

abbrev pub invariant-loop-n : goal.invariant-loop-n
invariant-loop-n l = l.w ≡ extended (8 * l.n - 16) l.fn.w

abbrev pub invariant-loop-t : goal.invariant-loop-t
invariant-loop-t l = l.w ≡ extended (l.t - 16) l.fn.w
