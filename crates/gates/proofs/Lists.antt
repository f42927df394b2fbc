-- What holds of each entry of a list, and lists whose entries are apart from one another under a relation. Assumes nothing.
use Rattle.std.proofs.Common.{◌≡◌, ℕ, zero, suc, List, [], ◌∷◌, sym, refl, ap, ◌∙◌, subst, ⊎_elim}
use mathlib.Core.List.{Memᴰ}
use mathlib.Core.List.Memᴰ
use Rattle.gates.specs.Lists.{In, At}

-- P holds of each entry
abbrev pub Each : {A : Type 0} → (A → Type 0) → List A → Type 0
Each {A} P xs = (x : A) → In x xs → P x

pub each_none : {A : Type 0} (P : A → Type 0) → Each P []
each_none P x m = absurd (Memᴰ.not-nil m)

pub each_cons : {A : Type 0} (P : A → Type 0) (x : A) (xs : List A) → P x → Each P xs → Each P (x ∷ xs)
each_cons P x xs p q y m = ⊎_elim (λ (e : y ≡ x). subst P (sym e) p) (λ k. q y k) (Memᴰ.cases_cons m)

-- no two entries, at two places, are related
unfoldable pub Distinct : {A : Type 0} → (A → A → Type 0) → List A → Type 0
Distinct R [] = Unit {0}
Distinct {A} R (x ∷ xs) = ((y : A) → In y xs → R x y → ⊥) × Distinct R xs

pub distinct_none : {A : Type 0} (R : A → A → Type 0) → Distinct R []
unfolding Distinct
distinct_none R = tt

pub distinct_cons : {A : Type 0} (R : A → A → Type 0) (x : A) (xs : List A) → ((y : A) → In y xs → R x y → ⊥) → Distinct R xs → Distinct R (x ∷ xs)
unfolding Distinct
distinct_cons R x xs p q = (p, q)

pub in-at : {A : Type 0} (x : A) (xs : List A) → In x xs → (i : ℕ) × At i x xs
unfolding At
in-at x [] m = absurd (Memᴰ.not-nil m)
in-at {A} x (y ∷ ys) m = ⊎_elim first (λ k. later (in-at x ys k)) (Memᴰ.cases_cons m)
  where
    first : x ≡ y → (i : ℕ) × At i x (y ∷ ys)
    first e = (0, sym e)

    later : ((i : ℕ) × At i x ys) → (i : ℕ) × At i x (y ∷ ys)
    later h = (suc h.0, h.1)

pub at_in : {A : Type 0} (i : ℕ) (x : A) (xs : List A) → At i x xs → In x xs
unfolding At
at_in i x [] h = absurd h
at_in zero x (y ∷ ys) h = Memᴰ.head (sym h)
at_in (suc i) x (y ∷ ys) h = Memᴰ.tail (at_in i x ys h)

pub at_same : {A : Type 0} (i : ℕ) (x y : A) (xs : List A) → At i x xs → At i y xs → x ≡ y
unfolding At
at_same i x y [] h k = absurd h
at_same zero x y (z ∷ zs) h k = sym h ∙ k
at_same (suc i) x y (z ∷ zs) h k = at_same i x y zs h k

module _ {A : Type 0} (R : A → A → Type 0) (flip : (x y : A) → R x y → R y x) where
  -- of entries that are related, there is one place
  pub distinct_place : (xs : List A) → Distinct R xs → (i k : ℕ) (x y : A) → At i x xs → At k y xs → R x y → i ≡ k
  unfolding Distinct At
  distinct_place [] d i k x y h l s = absurd h
  distinct_place (z ∷ zs) d zero zero x y h l s = refl
  distinct_place (z ∷ zs) d zero (suc k) x y h l s = absurd (d.0 y (at_in k y zs l) (subst (λ v. R v y) (sym h) s))
  distinct_place (z ∷ zs) d (suc i) zero x y h l s = absurd (d.0 x (at_in i x zs h) (subst (λ v. R v x) (sym l) (flip x y s)))
  distinct_place (z ∷ zs) d (suc i) (suc k) x y h l s = ap suc (distinct_place zs d.1 i k x y h l s)

  -- and so they are one
  pub distinct_same : (xs : List A) → Distinct R xs → (x y : A) → In x xs → In y xs → R x y → x ≡ y
  distinct_same xs d x y m n s =
      let h = in-at x xs m in
      let l = in-at y xs n in
      let e = distinct_place xs d h.0 l.0 x y h.1 l.1 s in
      at_same l.0 x y xs (subst (λ i. At i x xs) e h.1) l.1
