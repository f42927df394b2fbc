-- Numbers of up to four bytes, high byte first. Assumes nothing.
use Rattle.std.proofs.Common.{◌≡◌, ℕ, ◌+◌, ◌<◌, ◌≤◌, true, false, leb, ◌⊎◌, List, [], ◌∷◌, length, drop, Some, None, Option, MatchOption, IsSomeAnd, ◌&&◌, eqb, refl, w8, w16, w32, sym, ap, ◌∙◌, inl, inr, arith}
use Rattle.std.proofs.lemmas.Bool.Decides.{nat_tests, leb_tells}
use Rattle.std.proofs.lemmas.List.{length-take-le, length-drop}
use Rattle.std.proofs.lemmas.Option.{MatchOption-at_some, MatchOption-at_none}
use Rattle.std.specs.Int.{from_be_bytes}
use Rattle.std.specs.List.{list_all}
use Rattle.settings.specs.Reading.{all_zero}
use Rattle.settings.specs.Fields.{number_from, part, number_at, bytes_in, number_in}

-- a number or bytes that are all there
pub number_there : (bs : List ℕ) (at size : ℕ) → at + size ≤ length bs → number_in bs at size ≡ Some (number_at bs at size)
unfolding number_in
number_there bs at size there = grind (arith, nat_tests)

pub number_cut : (bs : List ℕ) (at size : ℕ) → length bs < at + size → number_in bs at size ≡ None
unfolding number_in
number_cut bs at size cut = grind (arith, nat_tests)

pub bytes_there : (bs : List ℕ) (at size : ℕ) → at + size ≤ length bs → bytes_in bs at size ≡ Some (part bs at size)
unfolding bytes_in
bytes_there bs at size there = grind (arith, nat_tests)

pub bytes_cut : (bs : List ℕ) (at size : ℕ) → length bs < at + size → bytes_in bs at size ≡ None
unfolding bytes_in
bytes_cut bs at size cut = grind (arith, nat_tests)

-- a number as std reads it is the one that promises speak of
pub be_one : (xs : List ℕ) → length xs ≡ 1 → from_be_bytes w8 xs ≡ number_from 0 xs
be_one [] long = absurd (omega arith)
be_one (a ∷ []) long = omega arith
be_one (a ∷ b ∷ xs) long = absurd (omega arith)

pub be_two : (xs : List ℕ) → length xs ≡ 2 → from_be_bytes w16 xs ≡ number_from 0 xs
be_two [] long = absurd (omega arith)
be_two (a ∷ []) long = absurd (omega arith)
be_two (a ∷ b ∷ []) long = omega arith
be_two (a ∷ b ∷ c ∷ xs) long = absurd (omega arith)

pub be_four : (xs : List ℕ) → length xs ≡ 4 → from_be_bytes w32 xs ≡ number_from 0 xs
be_four [] long = absurd (omega arith)
be_four (a ∷ []) long = absurd (omega arith)
be_four (a ∷ b ∷ []) long = absurd (omega arith)
be_four (a ∷ b ∷ c ∷ []) long = absurd (omega arith)
be_four (a ∷ b ∷ c ∷ d ∷ []) long = omega arith
be_four (a ∷ b ∷ c ∷ d ∷ e ∷ xs) long = absurd (omega arith)

-- bytes that are there, made into a number
pub number_made : (bs : List ℕ) (at size : ℕ) (o : Option (List ℕ)) (r : Option ℕ) (w : List ℕ → ℕ) → ((xs : List ℕ) → length xs ≡ size → w xs ≡ number_from 0 xs) → o ≡ bytes_in bs at size → MatchOption o (r ≡ None) (λ xs. IsSomeAnd r (λ n. n ≡ w xs)) → r ≡ number_in bs at size
number_made bs at size o r w is chunk made = by (leb_tells (at + size) (length bs))
  where
    value : (q : Option ℕ) (n : ℕ) → IsSomeAnd q (λ m. m ≡ n) → q ≡ Some n
    value (Some m) n same = ap Some same
    value None n none = absurd none

    by : ((leb (at + size) (length bs) ≡ true) × (at + size ≤ length bs)) ⊎ ((leb (at + size) (length bs) ≡ false) × (length bs < at + size)) → r ≡ number_in bs at size
    by (inl t) =
        let there : o ≡ Some (part bs at size) = chunk ∙ bytes_there bs at size t.1 in
        let long : length (part bs at size) ≡ size = length-take-le size (drop at bs) (omega (arith, length-drop at bs)) in
        value r (w (part bs at size)) (MatchOption-at_some _ _ _ there made) ∙ ap Some (is (part bs at size) long) ∙ sym (number_there bs at size t.1)
    by (inr t) = MatchOption-at_none _ _ (chunk ∙ bytes_cut bs at size t.1) made ∙ sym (number_cut bs at size t.1)

-- whether all bytes are 0, as std asks it
pub all_zero_is : (bs : List ℕ) → list_all (λ b. eqb b 0) bs ≡ all_zero bs
all_zero_is [] = refl
all_zero_is (b ∷ bs) = λ i. eqb b 0 && all_zero_is bs i
