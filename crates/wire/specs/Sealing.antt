-- What sealing a packet into lent memory answers, and what it leaves there. Assumes nothing.
use Rattle.std.specs.Prelude.{ℕ, ◌+◌, cond, List, ◌++◌, drop, Ok, Err, Result, nat_lt}
use Rattle.protocol.specs.Limits.{seal_length, packet_limit}
use Rattle.wire.specs.declared.state.Unsealed.{Unsealed}
use Rattle.wire.specs.declared.state.Unsealed.TheVariants.{TooLong, NoRoom}

-- how long the word of a packet of n bytes is, where it can be sealed into so many bytes
abbrev pub seal_answer : (n room : ℕ) → Result ℕ Unsealed
seal_answer n room = cond (nat_lt packet_limit n) (Err TooLong) (cond (nat_lt room (seal_length + n)) (Err NoRoom) (Ok (seal_length + n)))

-- the memory after: the word, and what was behind it; a refusal leaves it as it was
abbrev pub sealed_over : Result ℕ Unsealed → (word was : List ℕ) → List ℕ
sealed_over (Ok n) word was = word ++ drop n was
sealed_over (Err e) word was = was
