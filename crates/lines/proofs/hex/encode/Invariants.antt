use Rattle.std.proofs.Common.{◌≡◌, ◌++◌, drop, vec_items}
use Rattle.lines.specs.Hex.{encoded}
use Rattle.lines.proofs.hex.encode.Given as goal

abbrev pub invariant-loop-b : goal.invariant-loop-b
invariant-loop-b l = encoded l.bytes ≡ vec_items l.text ++ encoded (drop l.b-index l.bytes)
