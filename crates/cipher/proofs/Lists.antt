-- A function of two lists that is written over the first of them, place by place, and words that are written as bytes.
use Rattle.std.proofs.Common.{◌≡◌, ℕ, zero, suc, ◌<◌, ◌≤◌, min, List, [], ◌∷◌, ◌++◌, length, get_or, take, drop, set, sym, refl, ap, ◌∙◌, ⊎_elim, le_of_suc-le-suc, not-suc-le-zero, arith}
use lib.Lanes.{zip2}
use borrow.Rule.Slice.PartMut.{put_mid}
use Rattle.std.proofs.lemmas.Bool.{cases_lt}
use Rattle.std.proofs.lemmas.List.{take_at, drop_at, take_all, drop_all}

-- f of the first i places of xs and ys, and the rest of xs
abbrev pub over : {A B : Type 0} → (A → B → A) → List A → List B → ℕ → List A
over f xs ys i = zip2 f (take i xs) ys ++ drop i xs

pub over_more : {A B : Type 0} (f : A → B → A) (xs : List A) (ys : List B) (i : ℕ) (d : A) (e : B) → i < length xs → i < length ys
    → set (over f xs ys i) i (f (get_or (over f xs ys i) i d) (get_or ys i e)) ≡ over f xs ys (suc i)
over_more f [] ys i d e h k = absurd (not-suc-le-zero h)
over_more f (x ∷ xs) [] i d e h k = absurd (not-suc-le-zero k)
over_more f (x ∷ xs) (y ∷ ys) zero d e h k = refl
over_more f (x ∷ xs) (y ∷ ys) (suc i) d e h k =
    ap (λ zs. f x y ∷ zs) (over_more f xs ys i d e (le_of_suc-le-suc h) (le_of_suc-le-suc k))

pub over_all : {A B : Type 0} (f : A → B → A) (xs : List A) (ys : List B) (i : ℕ) → length xs ≤ i → i ≤ length ys → over f xs ys i ≡ zip2 f xs ys
over_all f [] ys zero h k = refl
over_all f [] ys (suc i) h k = refl
over_all f (x ∷ xs) ys zero h k = absurd (not-suc-le-zero h)
over_all f (x ∷ xs) [] (suc i) h k = absurd (not-suc-le-zero k)
over_all f (x ∷ xs) (y ∷ ys) (suc i) h k = ap (λ zs. f x y ∷ zs) (over_all f xs ys i (le_of_suc-le-suc h) (le_of_suc-le-suc k))

-- a part is written after a front that is as long as its place
pub put_next : {A : Type 0} (i k : ℕ) (front rest part : List A) → length front ≡ i → put_mid i k (front ++ rest) part ≡ front ++ (part ++ drop k rest)
put_next i k front rest part long =
    let a : take i (front ++ rest) ≡ front = take_at front rest i long in
    let b : drop i (front ++ rest) ≡ rest = drop_at front rest i long in
    rw (a, b) refl

-- two lists that are joined, place by place with two others
pub zip2-append : {A B C : Type 0} (f : A → B → C) (xs xs' : List A) (ys ys' : List B) → length xs ≡ length ys
    → zip2 f (xs ++ xs') (ys ++ ys') ≡ zip2 f xs ys ++ zip2 f xs' ys'
zip2-append f [] xs' [] ys' h = refl
zip2-append f [] xs' (y ∷ ys) ys' h = absurd (omega arith)
zip2-append f (x ∷ xs) xs' [] ys' h = absurd (omega arith)
zip2-append f (x ∷ xs) xs' (y ∷ ys) ys' h = ap (λ zs. f x y ∷ zs) (zip2-append f xs xs' ys ys' (omega arith))

-- what goes past the end of the first list doesn't matter
pub zip2_past : {A B C : Type 0} (f : A → B → C) (xs : List A) (ys zs : List B) → length xs ≤ length ys → zip2 f xs (ys ++ zs) ≡ zip2 f xs ys
zip2_past f [] ys zs h = refl
zip2_past f (x ∷ xs) [] zs h = absurd (not-suc-le-zero h)
zip2_past f (x ∷ xs) (y ∷ ys) zs h = ap (λ ws. f x y ∷ ws) (zip2_past f xs ys zs (le_of_suc-le-suc h))

-- a piece that ends where the list does, or w places on
pub piece : {A : Type 0} (xs : List A) (w n : ℕ) → n ≡ min w (length xs) → (take n xs ≡ take w xs) × (drop n xs ≡ drop w xs)
piece xs w n e =
    ⊎_elim
    (λ (h : w < length xs). let same : n ≡ w = omega arith in (ap (λ m. take m xs) same, ap (λ m. drop m xs) same))
    (λ (h : length xs ≤ w). let all : n ≡ length xs = omega arith in
    (take_all n xs (omega arith) ∙ sym (take_all w xs h), drop_all n xs (omega arith) ∙ sym (drop_all w xs h)))
    (cases_lt w (length xs))
