-- The bytes of settings. Assumes nothing.
use Rattle.std.specs.Prelude.{ℕ, zero, suc, ◌/◌, ◌%◌, List, [], ◌∷◌, ◌++◌}
use Rattle.protocol.specs.Limits.{window_size}
use Rattle.settings.specs.declared.plans.Settings.{Settings}
use Rattle.settings.specs.declared.ranges.Range.{Range}
use Rattle.settings.specs.Layout.{version_number}
use Rattle.settings.specs.Ranges.{range_at}
use Rattle.settings.specs.Plans.{key_at, outside_of}

-- a number of two bytes before others, high byte first
abbrev pub two : ℕ → List ℕ → List ℕ
two n rest = (n / 256 % 256) ∷ (n % 256) ∷ rest

-- a number of four bytes before others, high byte first
abbrev pub four : ℕ → List ℕ → List ℕ
four n rest = (n / 16777216 % 256) ∷ (n / 65536 % 256) ∷ (n / 256 % 256) ∷ (n % 256) ∷ rest

-- what stands before the entries
abbrev pub header_bytes : Settings → List ℕ
header_bytes s = version_number ∷ s.plan.gates ∷ s.own ∷ two s.plan.life (four s.plan.most (two window_size []))

-- a range and an address outside, before others
abbrev pub place_bytes : Range → ℕ → List ℕ
place_bytes r out = four r.first (four r.last (four out []))

-- the entry of a gate
abbrev pub entry_bytes : Settings → ℕ → List ℕ
entry_bytes s gate = (key_at s gate).bytes ++ place_bytes (range_at s.plan.ranges gate) (outside_of s.plan gate)

-- the entries of the gates below a number
abbrev pub entries_bytes : Settings → ℕ → List ℕ
entries_bytes s zero = []
entries_bytes s (suc n) = entries_bytes s n ++ entry_bytes s n

-- the bytes of settings
unfoldable pub bytes_of : Settings → List ℕ
bytes_of s = header_bytes s ++ entries_bytes s s.plan.gates
