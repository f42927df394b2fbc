-- Which texts are turned.
-- Assumes nothing.
use Rattle.std.specs.Prelude.{ℕ, ◌+◌, ◌^◌, cond, Ok, Err, Result, nat_lt}
use Rattle.cipher.specs.declared.fault.Fault.{Fault}
use Rattle.cipher.specs.declared.fault.Fault.TheVariants.{TooLong, CounterOver}
use Rattle.cipher.specs.ChaCha20.{blocks_for}

-- A text of n bytes is turned from a counter on if it has at most 65,536 bytes and all its block counters are below 2^32.
abbrev pub answer : ℕ → ℕ → Result (Unit {0}) Fault
answer counter n = cond (nat_lt 65536 n) (Err TooLong) (cond (nat_lt (2 ^ 32) (counter + blocks_for n)) (Err CounterOver) (Ok tt))
