-- How often something was refused. Assumes nothing.
use Rattle.std.specs.Prelude.{ℕ, ◌+◌, ◌-◌, ◌^◌, min, slice_index, slice_set}
use Rattle.protocol.specs.declared.refusals.Refusal.{Refusal}
use Rattle.protocol.specs.declared.counting.Counts.{Counts}
use Rattle.protocol.specs.Refusals.{refusal_number}

-- the count of a refusal: they stand in the order of their numbers
abbrev pub count_of : Counts → Refusal → ℕ
count_of c x = slice_index c.counts (refusal_number x - 1)

-- the counts with a refusal counted once more, unless its count is the largest number
abbrev pub counted : Refusal → Counts → Counts
counted x c = record { counts = slice_set c.counts (refusal_number x - 1) (min (count_of c x + 1) (2 ^ 64 - 1)) }
