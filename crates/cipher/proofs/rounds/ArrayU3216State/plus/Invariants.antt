use Rattle.std.proofs.Common.{◌≡◌}
use Rattle.cipher.specs.ChaCha20.{add32}
use Rattle.cipher.proofs.Lists.{over}
use Rattle.cipher.proofs.rounds.ArrayU3216State.plus.Given as goal

abbrev pub invariant-loop-i : goal.invariant-loop-i
invariant-loop-i l = l.word-items ≡ over add32 l.initial.word-items l.start l.i
