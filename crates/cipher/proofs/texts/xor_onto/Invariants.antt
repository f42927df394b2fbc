use Rattle.std.proofs.Common.{◌≡◌}
use lib.Bits.{bit_xor}
use Rattle.cipher.proofs.Lists.{over}
use Rattle.cipher.proofs.texts.xor_onto.Given as goal

abbrev pub invariant-loop-i : goal.invariant-loop-i
invariant-loop-i l = l.part ≡ over bit_xor l.initial.part l.stream l.i
