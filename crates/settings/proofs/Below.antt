-- A search from gate 0 up: what was found below a number is found below every greater one. Assumes nothing.
use Rattle.std.proofs.Common.{◌≡◌, ℕ, zero, suc, ◌+◌, ◌-◌, ◌<◌, ◌≤◌, true, false, cond, List, Some, None, Option, sym, refl, ap, ◌∙◌, add-zero, add-suc, add-one, arith, MatchOption}
use Rattle.settings.specs.declared.ranges.Range.{Range}
use Rattle.settings.specs.Ranges.{range_at, same_range, first_of, same_below}

-- a gate that has the range is found where none before it has
pub found_more : (rs : List Range) (r : Range) (i : ℕ) → same_below rs r i ≡ None → same_range (range_at rs i) r ≡ true → same_below rs r (i + 1) ≡ Some i
found_more rs r i none same = rw add-one ((λ j. first_of (none j) (cond (same j) (Some i) None)))

-- a range that no gate below has
pub none_same : (rs : List Range) (r : Range) (n : ℕ) → ((j : ℕ) → j < n → same_range (range_at rs j) r ≡ false) → same_below rs r n ≡ None
none_same rs r zero other = refl
none_same rs r (suc n) other =
    λ k. first_of (none_same rs r n (λ j less. other j (omega arith)) k) (cond (other n (omega arith) k) (Some n) None)

-- what was found stays found
pub found_stays : (rs : List Range) (r : Range) (i k more : ℕ) → same_below rs r i ≡ Some k → same_below rs r (i + more) ≡ Some k
found_stays rs r i k zero found = ap (same_below rs r) (add-zero i) ∙ found
found_stays rs r i k (suc more) found =
    ap (same_below rs r) (add-suc i more) ∙ ap (λ o. first_of o (cond (same_range (range_at rs (i + more)) r) (Some (i + more)) None)) (found_stays rs r i k more found)

-- the first gate that has the range, found by trying each from 0 up
pub first_same : (rs : List Range) (r : Range) (n : ℕ) (o : Option ℕ) → MatchOption o ((k : ℕ) → 0 ≤ k → k < n → same_range (range_at rs k) r ≡ false) (λ i. (0 ≤ i) × (i < n) × (same_range (range_at rs i) r ≡ true) × ((k : ℕ) → 0 ≤ k → k < i → same_range (range_at rs k) r ≡ false)) → o ≡ same_below rs r n
first_same rs r n None none = sym (none_same rs r n (λ j less. none j (omega arith) less))
first_same rs r n (Some i) found =
    let at : i + 1 + (n - (i + 1)) ≡ n = omega (arith, found.1) in
    sym (found_stays rs r (i + 1) i (n - (i + 1)) (found_more rs r i (none_same rs r i (λ j less. found.3 j (omega arith) less)) found.2)) ∙ ap (same_below rs r) at
