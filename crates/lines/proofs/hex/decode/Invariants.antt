use Rattle.std.proofs.Common.{◌≡◌, ◌+◌, ◌*◌, drop, vec_items}
use Rattle.lines.specs.Hex.{decoded}
use Rattle.lines.proofs.Digits.{sofar}
use Rattle.lines.proofs.hex.decode.Given as goal

-- what the line stands for is what was read, before what the pairs from here on stand for
abbrev pub invariant-loop-i : goal.invariant-loop-i
invariant-loop-i l = decoded (l.start + 1) (drop l.start l.line) ≡ sofar (vec_items l.bytes) (l.start + 2 * l.i) l.line
