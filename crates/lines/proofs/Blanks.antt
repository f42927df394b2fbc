-- What is left of a list without the blanks at its end. Assumes nothing.
use Rattle.std.proofs.Common.{◌≡◌, ℕ, zero, suc, ◌-◌, ◌<◌, ◌≤◌, true, false, cond, List, [], ◌∷◌, length, get_or, take, sym, refl, ap, ◌∙◌, arith}
use Rattle.std.specs.Char.{is_ascii_whitespace}
use Rattle.std.specs.Str.{IsTrimAsciiEnd}
use Rattle.lines.specs.Reading.{before, trim_end}

-- a front after which all is blank, and whose last byte isn't, is the trimmed list
pub trim_is : (xs : List ℕ) (n : ℕ) → n ≤ length xs → ((i : ℕ) → n ≤ i → i < length xs → is_ascii_whitespace (get_or xs i 0) ≡ true) → (0 < n → is_ascii_whitespace (get_or xs (n - 1) 0) ≡ false) → take n xs ≡ trim_end xs
trim_is [] zero le white last = refl
trim_is [] (suc n) le white last = refl
trim_is (b ∷ bs) zero le white last =
    let rest : [] ≡ trim_end bs = trim_is bs zero (omega arith) (λ i low lt. white (suc i) (omega arith) (omega arith)) (λ z. absurd (omega arith)) in
    sym (ap (λ t. cond t [] (b ∷ [])) (white 0 (omega arith) (omega arith))) ∙ ap (before b) rest
trim_is (b ∷ bs) (suc zero) le white last =
    let rest : [] ≡ trim_end bs = trim_is bs zero (omega arith) (λ i low lt. white (suc i) (omega arith) (omega arith)) (λ z. absurd (omega arith)) in
    sym (ap (λ t. cond t [] (b ∷ [])) (last (omega arith))) ∙ ap (before b) rest
trim_is (b ∷ []) (suc (suc m)) le white last = absurd (omega arith)
trim_is (b ∷ c ∷ cs) (suc (suc m)) le white last =
    let down : suc (suc m - 1) ≡ suc (suc m) - 1 = omega arith in
    ap (before b) (trim_is (c ∷ cs) (suc m) (omega arith) (λ i low lt. white (suc i) (omega arith) (omega arith)) (λ some. ap (λ k. is_ascii_whitespace (get_or (b ∷ c ∷ cs) k 0)) down ∙ last (omega arith)))

-- what std leaves of a list is the trimmed list
pub trimmed : (xs r : List ℕ) → IsTrimAsciiEnd xs r → r ≡ trim_end xs
trimmed xs r left = left.1 ∙ trim_is xs left.0 left.3 left.4 left.5
