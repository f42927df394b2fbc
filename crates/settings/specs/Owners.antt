-- Who owns an address, in plain words. Assumes nothing.
use Rattle.std.specs.Prelude.{◌≡◌, ℕ, ◌<◌, ◌≤◌, true, false, ◌⊎◌, List, ◌≢◌}
use Rattle.settings.specs.declared.ranges.Range.{Range}
use Rattle.settings.specs.Ranges.{range_at, holds, span, IsPrefix, same_range, nobody, owner_below}

-- a table that gives ranges to gates: few enough gates, each range one whole prefix, no two the same
pub record Table (ranges : List Range) (gates : ℕ) : Type 0 where
  pub few : gates ≤ 32
  pub prefixes : (i : ℕ) → i < gates → IsPrefix (range_at ranges i)
  pub apart : (i j : ℕ) → i < j → j < gates → same_range (range_at ranges i) (range_at ranges j) ≡ false

-- a gate's range holds an address
abbrev pub Holds : List Range → ℕ → ℕ → Type 0
Holds ranges gate address = holds (range_at ranges gate) address ≡ true

-- a gate owns an address: its range holds it, and the range of every other gate that holds it is larger,
-- that is a shorter prefix; so no two gates own one address
pub record Owns (ranges : List Range) (gates address gate : ℕ) : Type 0 where
  pub is : gate < gates
  pub held : Holds ranges gate address
  pub longest : (other : ℕ) → other < gates → Holds ranges other address → (other ≢ gate) → span (range_at ranges gate) < span (range_at ranges other)

-- nobody owns an address: no range holds it
abbrev pub Nobodys : List Range → ℕ → ℕ → Type 0
Nobodys ranges gates address = (gate : ℕ) → gate < gates → holds (range_at ranges gate) address ≡ false

-- in every table the owner of an address owns it, or is nobody where no range holds it
abbrev pub OwnerIsLongest : Type 0
OwnerIsLongest =
    (ranges : List Range) (gates : ℕ) → Table ranges gates → (address : ℕ)
    → ((owner_below ranges address gates ≡ nobody) × Nobodys ranges gates address) ⊎ Owns ranges gates address (owner_below ranges address gates)

-- two gates that own one address are the same
abbrev pub OwnerIsUnique : Type 0
OwnerIsUnique = (ranges : List Range) (gates address a b : ℕ) → Owns ranges gates address a → Owns ranges gates address b → a ≡ b
