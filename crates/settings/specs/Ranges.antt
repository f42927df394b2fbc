-- Ranges of addresses that are one prefix, and who owns an address: the longest prefix that holds it. Assumes nothing.
use Rattle.std.specs.Prelude.{◌≡◌, ℕ, zero, suc, ◌+◌, ◌-◌, ◌%◌, ◌^◌, ◌≤◌, Bool, false, cond, ◌&&◌, ◌||◌, List, Some, None, Option, ◌==◌, nat_le, nat_lt, slice_index_or}
use Rattle.settings.specs.declared.ranges.Range.{Range}

-- the range that stands where none was put
abbrev pub blank_range : Range
blank_range = record { first = 0; last = 0 }

-- the range of a gate
abbrev pub range_at : List Range → ℕ → Range
range_at ranges gate = slice_index_or ranges gate blank_range

-- whether a range holds an address
abbrev pub holds : Range → ℕ → Bool
holds r address = nat_le r.first address && nat_le address r.last

-- how far a range reaches beyond its first address: the longer the prefix, the less
abbrev pub span : Range → ℕ
span r = r.last - r.first

-- a range is all the addresses that begin with the same so many bits
pub record PrefixOf (bits : ℕ) (r : Range) : Type 0 where
  pub within : bits ≤ 32
  pub begins : r.first % 2 ^ (32 - bits) ≡ 0
  pub ends : r.last + 1 ≡ r.first + 2 ^ (32 - bits)

-- a range is all the addresses of one prefix
abbrev pub IsPrefix : Range → Type 0
IsPrefix r = (bits : ℕ) × PrefixOf bits r

-- whether a range is all the addresses that begin with the same so many bits
abbrev pub has_length : Range → ℕ → Bool
has_length r bits = r.first % 2 ^ (32 - bits) == 0 && r.last + 1 == r.first + 2 ^ (32 - bits)

-- whether a range is a prefix of a length below a number
abbrev pub prefix_below : Range → ℕ → Bool
prefix_below r zero = false
prefix_below r (suc n) = has_length r n || prefix_below r n

-- whether a range is all the addresses of one prefix
unfoldable pub is_prefix : Range → Bool
is_prefix r = prefix_below r 33

-- whether two ranges are the same
abbrev pub same_range : Range → Range → Bool
same_range r s = r.first == s.first && r.last == s.last

-- the first of two answers that is there
abbrev pub first_of : Option ℕ → Option ℕ → Option ℕ
first_of (Some x) other = Some x
first_of None other = other

-- the first gate below a number that has this range
abbrev pub same_below : List Range → Range → ℕ → Option ℕ
same_below ranges r zero = None
same_below ranges r (suc n) = first_of (same_below ranges r n) (cond (same_range (range_at ranges n) r) (Some n) None)

-- the number that stands for nobody: no gate has it; a number, since the abstract protocol's owner is a function to numbers
abbrev pub nobody : ℕ
nobody = 255

-- the better owner of an address: a gate whose range holds it, if the other is nobody or has a shorter prefix
abbrev pub better : List Range → ℕ → ℕ → ℕ → ℕ
better ranges address gate other =
    cond (holds (range_at ranges gate) address && (other == nobody || nat_lt (span (range_at ranges gate)) (span (range_at ranges other)))) gate other

-- the owner of an address among the gates below a number
abbrev pub owner_below : List Range → ℕ → ℕ → ℕ
owner_below ranges address zero = nobody
owner_below ranges address (suc n) = better ranges address n (owner_below ranges address n)

-- a gate, or none for nobody
abbrev pub as_gate : ℕ → Option ℕ
as_gate gate = cond (gate == nobody) None (Some gate)
