use Rattle.std.proofs.Common.{◌≡◌, ◌%◌, ◌++◌, take, drop}
use Rattle.cipher.specs.ChaCha20.{encrypt}
use Rattle.cipher.proofs.blocks.ChaCha20.turn_parts.Given as goal

abbrev pub invariant-loop-from : goal.invariant-loop-from
invariant-loop-from g l =
    (l.from % 64 ≡ 0) × (l.text ≡ encrypt l.self.key l.counter l.self.nonce (take l.from l.initial.text) ++ drop l.from l.initial.text)
