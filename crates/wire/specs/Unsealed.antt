-- Why a packet isn't sealed, for people. Assumes nothing.
use Rattle.std.specs.Prelude.{ℕ, List, codes}
use Rattle.wire.specs.declared.state.Unsealed.{Unsealed}
use Rattle.wire.specs.declared.state.Unsealed.TheVariants.{TooLong, NoRoom}

-- a sentence for each cause, in ASCII
abbrev pub unsealed_sentence : Unsealed → List ℕ
unsealed_sentence TooLong = codes "the packet is longer than any that may pass"
unsealed_sentence NoRoom = codes "the memory has no room for the word"
