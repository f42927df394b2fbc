-- Whether a range is a prefix, decided by trying every length. Assumes nothing.
use Rattle.std.proofs.Common.{◌≡◌, ℕ, ◌<◌, ◌≤◌, true, false, is_some, Some, None, Decides, Option, sym, refl, ◌∙◌, arith, MatchOption}
use Rattle.std.proofs.lemmas.Bool.Decides.{nat_tests, Decides-below_or, same_from_decides}
use Rattle.settings.specs.declared.ranges.Range.{Range}
use Rattle.settings.specs.Ranges.{PrefixOf, IsPrefix, has_length, prefix_below, is_prefix}

-- the test at one length
pub length-is : (r : Range) (n : ℕ) → n < 33 → has_length r n ≡ true → PrefixOf n r
length-is r n small passed = record { within = omega arith; begins = grind (arith, nat_tests); ends = grind (arith, nat_tests) }

pub length_passes : (r : Range) (n : ℕ) → PrefixOf n r → has_length r n ≡ true
length_passes r n is = grind (arith, nat_tests)

-- the first length that passes is that of the prefix
pub first_is : (r : Range) (o : Option ℕ) → MatchOption o ((k : ℕ) → 0 ≤ k → k < 33 → has_length r k ≡ false) (λ i. (0 ≤ i) × (i < 33) × (has_length r i ≡ true) × ((k : ℕ) → 0 ≤ k → k < i → has_length r k ≡ false)) → MatchOption o (IsPrefix r → ⊥) (λ bits. PrefixOf bits r)
first_is r None none = λ is. clash (sym (length_passes r is.0 is.1) ∙ none is.0 (omega arith) (omega (arith, is.1)))
  where
    clash : true ≡ false → ⊥
    clash e = let z : ◌≡◌ {A = ℕ} 0 1 = cc in omega arith
first_is r (Some bits) found = length-is r bits found.1 found.2

-- the test decides exactly whether a range is a prefix
pub prefix_decides : (r : Range) → Decides (is_prefix r) (IsPrefix r)
unfolding is_prefix
prefix_decides r =
    let tried : Decides (prefix_below r 33) ((k : ℕ) × (k < 33) × (has_length r k ≡ true)) = Decides-below_or (has_length r) (λ k. has_length r k ≡ true) (prefix_below r) (λ k. (λ e. e, λ e. e)) refl (λ _. refl) 33 in
    (λ passed. let found = tried.0 passed in (found.0, length-is r found.0 found.1 found.2), λ is. tried.1 (is.0, omega (arith, is.1), length_passes r is.0 is.1))

-- a length that is found decides whether there is one
pub some_decides : (r : Range) (o : Option ℕ) → MatchOption o (IsPrefix r → ⊥) (λ bits. PrefixOf bits r) → Decides (is_some o) (IsPrefix r)
some_decides r None none = (λ e. absurd (clash e), λ is. absurd (none is))
  where
    clash : false ≡ true → ⊥
    clash e = let z : ◌≡◌ {A = ℕ} 0 1 = cc in omega arith
some_decides r (Some bits) is = (λ e. (bits, is), λ p. refl)

-- so the range is a prefix exactly where a length is found
pub prefix_found : (r : Range) (o : Option ℕ) → MatchOption o (IsPrefix r → ⊥) (λ bits. PrefixOf bits r) → is_some o ≡ is_prefix r
prefix_found r o found = same_from_decides _ _ (some_decides r o found) (prefix_decides r)
