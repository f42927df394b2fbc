-- Settings that are allowed, in plain words, and that their bytes are exactly what reading takes. Assumes nothing.
use Rattle.std.specs.Prelude.{◌≡◌, ℕ, ◌-◌, ◌^◌, ◌<◌, ◌≤◌, true, List, ◌++◌, length, take, replicate, Ok}
use Rattle.std.specs.List.{AllByRecursion}
use Rattle.protocol.specs.Limits.{life_least, life_limit, most_least, most_limit}
use Rattle.settings.specs.declared.plans.Plan.{Plan}
use Rattle.settings.specs.declared.plans.Settings.{Settings}
use Rattle.settings.specs.Ranges.{blank_range, range_at}
use Rattle.settings.specs.Owners.{Table}
use Rattle.settings.specs.Plans.{blank_key, key_at, outside_of}
use Rattle.settings.specs.Reading.{all_zero, settings_read}
use Rattle.settings.specs.Writing.{bytes_of}

-- the first so many places of a list, and a value in the places up to 32
abbrev pub filled : {A : Type 0} → ℕ → A → List A → List A
filled n blank xs = take n xs ++ replicate (32 - n) blank

-- a list of 32 places of which those from a number on are blank
pub record Padded {A : Type 0} (n : ℕ) (blank : A) (xs : List A) : Type 0 where
  pub long : length xs ≡ 32
  pub rest : filled n blank xs ≡ xs

-- a plan that is allowed: life and most in range, a table of prefixes of which no two are the same, addresses of 32 bits
pub record SoundPlan (p : Plan) : Type 0 where
  pub life_low : life_least ≤ p.life
  pub life_high : p.life ≤ life_limit
  pub most_low : most_least ≤ p.most
  pub most_high : p.most ≤ most_limit
  pub table : Table p.ranges p.gates
  pub firsts : (i : ℕ) → i < p.gates → (range_at p.ranges i).first < 2 ^ 32
  pub lasts : (i : ℕ) → i < p.gates → (range_at p.ranges i).last < 2 ^ 32
  pub outsides : (i : ℕ) → i < p.gates → outside_of p i < 2 ^ 32
  pub ranges_padded : Padded p.gates blank_range p.ranges
  pub outside_padded : Padded p.gates 0 p.outside

-- settings that are allowed: an allowed plan, a number of their own, keys of 32 bytes, and zeros for the gate's key with itself
pub record Sound (s : Settings) : Type 0 where
  pub planned : SoundPlan s.plan
  pub numbered : s.own < s.plan.gates
  pub zeros : all_zero (key_at s s.own).bytes ≡ true
  pub sizes : (i : ℕ) → i < s.plan.gates → length (key_at s i).bytes ≡ 32
  pub keys_padded : Padded s.plan.gates blank_key s.keys

-- reading what was written gives it back
abbrev pub ReadsBack : Type 0
ReadsBack = (s : Settings) → Sound s → settings_read (bytes_of s) ≡ Ok s

-- what was read is allowed, and writing it gives the bytes
abbrev pub WritesBack : Type 0
WritesBack = (bytes : List ℕ) (s : Settings) → AllByRecursion (λ b. b < 256) bytes → settings_read bytes ≡ Ok s → Sound s × (bytes_of s ≡ bytes)
