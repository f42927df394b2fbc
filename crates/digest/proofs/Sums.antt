-- Two sums of bytes that are compared by what their xor leaves.
use Rattle.std.proofs.Common.{◌≡◌, ℕ, List, [], ◌∷◌, length, sym, refl, ap, ◌∙◌, ap₂, arith}
use lib.Bits.{bit_or, bit_xor, or_add_and, xor_self, xor_assoc, xor_zero_r, xor_zero_l}
use Rattle.std.proofs.lemmas.Nat.{and_le_l, and_le_r}
use Rattle.std.specs.List.{fold, zip}

or_none : (a b : ℕ) → bit_or a b ≡ 0 → (a ≡ 0) × (b ≡ 0)
or_none a b e = (omega (arith, or_add_and a b, and_le_l a b, and_le_r a b), omega (arith, or_add_and a b, and_le_l a b, and_le_r a b))

xor_none : (x y : ℕ) → bit_xor x y ≡ 0 → x ≡ y
xor_none x y e =
    sym (xor_zero_r x) ∙ ap (λ z. bit_xor x z) (sym e) ∙ sym (xor_assoc x x y) ∙ ap (λ z. bit_xor z y) (xor_self x) ∙ xor_zero_l y

-- the difference so far, and two bytes more
abbrev pub more : ℕ → ℕ × ℕ → ℕ
more d p = bit_or d (bit_xor p.0 p.1)

none_before : (xs ys : List ℕ) (d : ℕ) → length xs ≡ length ys → fold more d (zip xs ys) ≡ 0 → (d ≡ 0) × (xs ≡ ys)
none_before [] [] d n e = (e, refl)
none_before [] (y ∷ ys) d n e = cc
none_before (x ∷ xs) [] d n e = cc
none_before (x ∷ xs) (y ∷ ys) d n e =
    let later : (more d (x, y) ≡ 0) × (xs ≡ ys) = none_before xs ys (more d (x, y)) (omega arith) e in
    let here : (d ≡ 0) × (bit_xor x y ≡ 0) = or_none d (bit_xor x y) later.0 in
    (here.0, ap₂ (λ z zs. z ∷ zs) (xor_none x y here.1) later.1)

none_along : (xs : List ℕ) (d : ℕ) → d ≡ 0 → fold more d (zip xs xs) ≡ 0
none_along [] d e = e
none_along (x ∷ xs) d e = none_along xs (more d (x, x)) (ap₂ bit_or e (xor_self x))

-- two sums differ by nothing exactly if they are the same
pub same_if_none : (xs ys : List ℕ) → length xs ≡ length ys → fold more 0 (zip xs ys) ≡ 0 → xs ≡ ys
same_if_none xs ys n e = (none_before xs ys 0 n e).1

pub none_if_same : (xs ys : List ℕ) → xs ≡ ys → fold more 0 (zip xs ys) ≡ 0
none_if_same xs ys e = ap (λ zs. fold more 0 (zip xs zs)) (sym e) ∙ none_along xs 0 refl
