-- The settings of all gates from one plan and drawn bytes, and what it means that settings agree. Assumes nothing.
use Rattle.std.specs.Prelude.{◌≡◌, ℕ, zero, suc, ◌+◌, ◌*◌, ◌<◌, cond, ◌||◌, List, map, length, replicate, Some, None, Ok, Option, ◌==◌, nat_lt, slice_index_or, slice_set, codes}
use Rattle.std.specs.List.{range_with_len}
use Rattle.protocol.specs.Limits.{gates_limit}
use Rattle.settings.specs.declared.making.MakeFault.{MakeFault}
use Rattle.settings.specs.declared.making.MakeFault.TheVariants.{WrongGates, FewDrawn, NoMemory}
use Rattle.settings.specs.declared.plans.Key.{Key}
use Rattle.settings.specs.declared.plans.Plan.{Plan}
use Rattle.settings.specs.declared.plans.Settings.{Settings}
use Rattle.settings.specs.Fields.{part}
use Rattle.settings.specs.Layout.{key_size}
use Rattle.settings.specs.Plans.{blank_key, empty_settings, key_at}
use Rattle.settings.specs.Reading.{settings_read}
use Rattle.settings.specs.Writing.{bytes_of}

-- which of the drawn keys is that of two gates: a row of 32 for each gate, of which the place of the lower gate is taken
abbrev pub pair_place : ℕ → ℕ → ℕ
pair_place a b = cond (nat_lt a b) (32 * b + a) (32 * a + b)

-- how many drawn bytes so many gates need: a row of 32 keys for each
abbrev pub drawn_needed : ℕ → ℕ
drawn_needed gates = 1024 * gates

-- the key of a gate with a gate: zeros with itself
abbrev pub key_for : List ℕ → ℕ → ℕ → Key
key_for drawn own gate = cond (gate == own) blank_key (record { bytes = part drawn (key_size * pair_place own gate) key_size })

-- the keys of a gate with the gates below a number
abbrev pub keys_for : List ℕ → ℕ → ℕ → List Key
keys_for drawn own zero = replicate 32 blank_key
keys_for drawn own (suc n) = slice_set (keys_for drawn own n) n (key_for drawn own n)

-- the settings of one gate
abbrev pub settings_for : Plan → List ℕ → ℕ → Settings
settings_for p drawn o = record { own = o; plan = p; keys = keys_for drawn o p.gates }

-- the settings of all gates, in the order of their numbers
unfoldable pub all_settings : Plan → List ℕ → List Settings
all_settings p drawn = map (settings_for p drawn) (range_with_len 0 p.gates)

-- why settings can't be made: no gates or too many, or too few drawn bytes
abbrev pub make_fault : Plan → List ℕ → Option MakeFault
make_fault p drawn =
    cond (p.gates == 0 || nat_lt gates_limit p.gates) (Some WrongGates) (cond (nat_lt (length drawn) (drawn_needed p.gates)) (Some FewDrawn) None)

-- a sentence for each cause, in ASCII
abbrev pub make_sentence : MakeFault → List ℕ
make_sentence WrongGates = codes "the plan has no gates, or too many"
make_sentence FewDrawn = codes "there are fewer drawn bytes than 1024 for each gate"
make_sentence NoMemory = codes "there is no memory"

-- the settings of a gate in a list
abbrev pub settings_at : List Settings → ℕ → Settings
settings_at all i = slice_index_or all i (empty_settings 0 0 0)

-- settings agree: each gate has its place as its number, all have the same number of gates, life, most, ranges and addresses outside,
-- and two gates have the same key with one another
pub record Agree (all : List Settings) : Type 0 where
  pub numbered : (i : ℕ) → i < length all → (settings_at all i).own ≡ i
  pub counted : (i : ℕ) → i < length all → (settings_at all i).plan.gates ≡ length all
  pub lives : (i j : ℕ) → i < length all → j < length all → (settings_at all i).plan.life ≡ (settings_at all j).plan.life
  pub mosts : (i j : ℕ) → i < length all → j < length all → (settings_at all i).plan.most ≡ (settings_at all j).plan.most
  pub tables : (i j : ℕ) → i < length all → j < length all → (settings_at all i).plan.ranges ≡ (settings_at all j).plan.ranges
  pub outsides : (i j : ℕ) → i < length all → j < length all → (settings_at all i).plan.outside ≡ (settings_at all j).plan.outside
  pub keys : (i j : ℕ) → i < length all → j < length all → key_at (settings_at all i) j ≡ key_at (settings_at all j) i

-- each gate reads its settings from the bytes that are written of them
abbrev pub AllRead : List Settings → Type 0
AllRead all = (i : ℕ) → i < length all → settings_read (bytes_of (settings_at all i)) ≡ Ok (settings_at all i)

-- two pairs of different gates that have one place among the drawn keys are one pair
abbrev pub PairsApart : Type 0
PairsApart = (a b c d : ℕ) → a < b → b < 32 → c < d → d < 32 → pair_place a b ≡ pair_place c d → (a ≡ c) × (b ≡ d)
