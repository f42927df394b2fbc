-- The Internet checksum (RFC 1071). Assumes nothing.
use Rattle.std.specs.Prelude.{◌≡◌, ℕ, ◌+◌, ◌-◌, ◌*◌, ◌/◌, ◌%◌, ◌^◌, ◌<◌, ◌⊎◌, List, [], ◌∷◌, ◌++◌, length}
use Rattle.std.specs.List.{AllByRecursion}

-- 16-bit numbers added in ones' complement: the carry is brought round to the end (RFC 1071, section 2 (A))
abbrev pub ones_add : ℕ → ℕ → ℕ
ones_add x y = (x + y) % 2 ^ 16 + (x + y) / 2 ^ 16

-- the ones' complement sum of a number and of bytes, in pairs, the high one first; a last byte
-- without another counts as the high one (RFC 1071, section 1)
abbrev pub ones_sum : ℕ → List ℕ → ℕ
ones_sum sum [] = sum
ones_sum sum (last ∷ []) = ones_add sum (last * 256 + 0)
ones_sum sum (high ∷ low ∷ rest) = ones_sum (ones_add sum (high * 256 + low)) rest

-- all 16 bits are ones
abbrev pub all_ones : ℕ
all_ones = 2 ^ 16 - 1

-- a header with these two bytes in its sum field, the bytes 10 and 11
abbrev pub with_field : List ℕ → ℕ → ℕ → List ℕ → List ℕ
with_field front high low back = front ++ high ∷ low ∷ back

-- the field that RFC 791, section 3.1, has the sender write: the ones' complement of the ones' complement sum with 0 in the field
abbrev pub field_for : List ℕ → List ℕ → ℕ
field_for front back = all_ones - ones_sum 0 (with_field front 0 0 back)

-- the sum with the field is all ones exactly where the field is the sender's, or all ones where that is 0:
-- ones' complement has two zeros
abbrev pub RightSum : Type 0
RightSum =
    (front back : List ℕ) (high low : ℕ) → length front ≡ 10 → AllByRecursion (λ b. b < 256) (with_field front high low back)
    → (ones_sum 0 (with_field front high low back) ≡ all_ones → (high * 256 + low ≡ field_for front back) ⊎ ((high * 256 + low ≡ all_ones) × (field_for front back ≡ 0)))
    × ((high * 256 + low ≡ field_for front back) ⊎ ((high * 256 + low ≡ all_ones) × (field_for front back ≡ 0)) → ones_sum 0 (with_field front high low back) ≡ all_ones)
