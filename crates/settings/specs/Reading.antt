-- Which bytes are which settings: reading goes field by field and stops at the first fault. Assumes nothing.
use Rattle.std.specs.Prelude.{ℕ, zero, suc, ◌+◌, ◌-◌, ◌^◌, Bool, true, cond, not, ◌&&◌, List, [], ◌∷◌, length, Some, None, Ok, Err, Option, Result, ◌==◌}
use Rattle.protocol.specs.Limits.{gates_limit, window_size, life_least, life_limit, most_least, most_limit}
use Rattle.settings.specs.declared.faults.Field.{Field}
use Rattle.settings.specs.declared.faults.Field.TheVariants as field
use Rattle.settings.specs.declared.faults.Cause.{Cause}
use Rattle.settings.specs.declared.faults.Cause.TheVariants.{Missing, Wrong}
use Rattle.settings.specs.declared.faults.Fault.{Fault}
use Rattle.settings.specs.declared.plans.Key.{Key}
use Rattle.settings.specs.declared.plans.Plan.{Plan}
use Rattle.settings.specs.declared.plans.Settings.{Settings}
use Rattle.settings.specs.declared.ranges.Range.{Range}
use Rattle.settings.specs.declared.reading.Header.{Header}
use Rattle.settings.specs.Layout.{version_number, version_at, gates_at, own_at, life_at, most_at, window_at, key_size, first_at, last_at, outside_at, entry_at}
use Rattle.settings.specs.Faults.{header_fault, entry_fault, and_then}
use Rattle.settings.specs.Fields.{bytes_in, number_in, checked}
use Rattle.settings.specs.Plans.{empty_settings, settings_with, range_cause}

-- a number before the entries: there, and in its range
abbrev pub header_field : List ℕ → Field → ℕ → ℕ → ℕ → ℕ → Result ℕ Fault
header_field bytes f at size least limit = checked (header_fault f) least limit (number_in bytes at size)

-- what stands before the entries
unfoldable pub header_read : List ℕ → Result Header Fault
header_read bytes =
    and_then (header_field bytes field.Version version_at 1 version_number version_number) (λ v.
    and_then (header_field bytes field.Gates gates_at 1 1 gates_limit) (λ g.
    and_then (header_field bytes field.Own own_at 1 0 (g - 1)) (λ o.
    and_then (header_field bytes field.Life life_at 2 life_least life_limit) (λ l.
    and_then (header_field bytes field.Most most_at 4 most_least most_limit) (λ m.
    and_then (header_field bytes field.Window window_at 2 window_size window_size) (λ w.
    Ok (record { gates = g; own = o; life = l; most = m })))))))

-- an address in a gate's entry: there, and any at all
abbrev pub address_field : List ℕ → Field → ℕ → ℕ → Result ℕ Fault
address_field bytes f gate at = checked (entry_fault f gate) 0 (2 ^ 32 - 1) (number_in bytes (entry_at gate + at) 4)

-- whether all bytes are 0
abbrev pub all_zero : List ℕ → Bool
all_zero [] = true
all_zero (b ∷ bs) = b == 0 && all_zero bs

-- the key of a gate's entry: there, and zeros in the gate's own
abbrev pub key_checked : ℕ → ℕ → Option (List ℕ) → Result Key Fault
key_checked own gate None = Err (entry_fault field.Key gate Missing)
key_checked own gate (Some k) = cond (gate == own && not (all_zero k)) (Err (entry_fault field.Key gate Wrong)) (Ok (record { bytes = k }))

-- a range, unless there is a cause against it
abbrev pub range_unless : ℕ → Range → Option Cause → Result Range Fault
range_unless gate r None = Ok r
range_unless gate r (Some why) = Err (entry_fault field.Range gate why)

-- the range of a gate's entry: both ends there, one whole prefix, and no earlier gate's
unfoldable pub range_read : List ℕ → Plan → ℕ → Result Range Fault
range_read bytes p gate =
    and_then (address_field bytes field.Range gate first_at) (λ f.
    and_then (address_field bytes field.Range gate last_at) (λ l.
    range_unless gate (record { first = f; last = l }) (range_cause p (record { first = f; last = l }))))

-- the entry of a gate, added to the settings read so far
unfoldable pub entry_read : List ℕ → ℕ → Settings → Result Settings Fault
entry_read bytes gate s =
    and_then (key_checked s.own gate (bytes_in bytes (entry_at gate) key_size)) (λ k.
    and_then (range_read bytes s.plan gate) (λ r.
    and_then (address_field bytes field.Outside gate outside_at) (λ o.
    Ok (settings_with s k r o))))

-- the entries of the gates below a number
abbrev pub entries_read : List ℕ → Settings → ℕ → Result Settings Fault
entries_read bytes s zero = Ok s
entries_read bytes s (suc n) = and_then (entries_read bytes s n) (λ t. entry_read bytes n t)

-- nothing stands behind the last entry
abbrev pub end_read : List ℕ → ℕ → Settings → Result Settings Fault
end_read bytes gates s = cond (length bytes == entry_at gates) (Ok s) (Err (header_fault field.End Wrong))

-- the settings that bytes are, or their first fault
unfoldable pub settings_read : List ℕ → Result Settings Fault
settings_read bytes =
    and_then (header_read bytes) (λ h.
    and_then (entries_read bytes (empty_settings h.own h.life h.most) h.gates) (λ s.
    end_read bytes h.gates s))
