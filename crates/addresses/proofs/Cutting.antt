-- How a text is cut, byte by byte and part by part. Assumes nothing.
use Rattle.std.proofs.Common.{◌≡◌, ℕ, zero, suc, ◌<◌, Bool, true, false, cond, List, [], ◌∷◌, length, take, drop, Some, None, Option, refl, ap, ◌∙◌, arith}
use Rattle.std.specs.List.{HoldsAt, AllWithin, slice_split, onto_first}
use Rattle.addresses.specs.Marks.{front, behind}

-- the first mark that a text has
pub mark_found : (m : ℕ → Bool) (t : List ℕ) (at : ℕ) → at < length t → HoldsAt (λ b. m b ≡ true) t at → AllWithin (λ b. m b ≡ false) t 0 at → (front m t ≡ take at t) × (behind m t ≡ Some (drop (suc at) t))
mark_found m [] at less here before = absurd (omega arith)
mark_found m (b ∷ bs) zero less here before = (ap (λ q. cond q [] (b ∷ front m bs)) (here 0), ap (λ q. cond q (Some bs) (behind m bs)) (here 0))
mark_found m (b ∷ bs) (suc at) less here before =
    let other : m b ≡ false = before 0 0 (omega arith) (omega arith) in
    let rest = mark_found m bs at (omega arith) here (λ k d low below. before (suc k) d (omega arith) (omega arith)) in (
      ap (λ q. cond q [] (b ∷ front m bs)) other ∙ ap (λ l. b ∷ l) rest.0,
      ap (λ q. cond q (Some bs) (behind m bs)) other ∙ rest.1,
    )

-- a text that has none
pub mark_none : (m : ℕ → Bool) (t : List ℕ) → AllWithin (λ b. m b ≡ false) t 0 (length t) → (front m t ≡ t) × (behind m t ≡ None)
mark_none m [] clear = (refl, refl)
mark_none m (b ∷ bs) clear =
    let other : m b ≡ false = clear 0 0 (omega arith) (omega arith) in
    let rest = mark_none m bs (λ k d low below. clear (suc k) d (omega arith) (omega arith)) in (
      ap (λ q. cond q [] (b ∷ front m bs)) other ∙ ap (λ l. b ∷ l) rest.0,
      ap (λ q. cond q (Some bs) (behind m bs)) other ∙ rest.1,
    )

-- the parts behind the first one
abbrev pub others : (ℕ → Bool) → Option (List ℕ) → List (List ℕ)
others m None = []
others m (Some rest) = slice_split m rest

-- the first part is the front, and the others are those of what stands behind
pub pieces_are : (m : ℕ → Bool) (t : List ℕ) → slice_split m t ≡ front m t ∷ others m (behind m t)
pieces_are m [] = refl
pieces_are m (b ∷ bs) = by (m b) (pieces_are m bs)
  where
    by : (c : Bool) → slice_split m bs ≡ front m bs ∷ others m (behind m bs) → cond c ([] ∷ slice_split m bs) (onto_first b (slice_split m bs)) ≡ cond c [] (b ∷ front m bs) ∷ others m (cond c (Some bs) (behind m bs))
    by true rest = refl
    by false rest = ap (onto_first b) rest

-- what stands behind a mark is shorter than the text
pub behind_shorter : (m : ℕ → Bool) (t u : List ℕ) → behind m t ≡ Some u → length u < length t
behind_shorter m [] u is = absurd (let z : ◌≡◌ {A = ℕ} 0 1 = cc in omega arith)
behind_shorter m (b ∷ bs) u is = by (m b) (λ e. behind_shorter m bs u e) is
  where
    by : (c : Bool) → (behind m bs ≡ Some u → length u < length bs) → cond c (Some bs) (behind m bs) ≡ Some u → length u < length (b ∷ bs)
    by true rest found = let same : bs ≡ u = cc in omega (arith, ap length same)
    by false rest found = omega (arith, rest found)
