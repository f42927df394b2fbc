-- Sums: which are computed, and which are right. Assumes nothing.
use Rattle.std.proofs.Common.{◌≡◌, ℕ, ◌+◌, ◌^◌, Bool, true, false, cond, ◌&&◌, ltb, List, [], ◌∷◌, length, Ok, Err, Result, sym, refl, ap, ◌∙◌, subst, arith}
use Rattle.std.proofs.lemmas.Bool.Decides.{nat_tests}
use Rattle.digest.specs.Hashers.{limited}
use Rattle.digest.specs.declared.state.Fault.{Fault}
use Rattle.digest.specs.declared.state.Fault.TheVariants.{TooLong}
use Rattle.wire.specs.Keys.{sum_of}
use Rattle.wire.specs.Reading.{body_in, sum_in, same, sum_right}

-- a message that is taken has fewer than 2^64 bits
pub limited-ok : (n : ℕ) (x : Unit {0}) → Ok x ≡ limited n tt → ltb n (2 ^ 61) ≡ true
limited-ok n x h = by (ltb n (2 ^ 61)) h
  where
    by : (b : Bool) → ◌≡◌ {A = Result (Unit {0}) Fault} (Ok x) (cond b (Ok tt) (Err TooLong)) → b ≡ true
    by true e = refl
    by false e = let z : ◌≡◌ {A = ℕ} 0 1 = cc in absurd (omega arith)

-- the same lists are the same
pub same_true : (xs ys : List ℕ) → same xs ys ≡ true → xs ≡ ys
unfolding same
same_true [] [] h = refl
same_true [] (y ∷ ys) h = let z : ◌≡◌ {A = ℕ} 0 1 = cc in absurd (omega arith)
same_true (x ∷ xs) [] h = let z : ◌≡◌ {A = ℕ} 0 1 = cc in absurd (omega arith)
same_true (x ∷ xs) (y ∷ ys) h =
    let first : x ≡ y = grind (arith, nat_tests) in
    let rest : same xs ys ≡ true = grind (arith, nat_tests) in
    let more : xs ≡ ys = same_true xs ys rest in
    cc

pub same_refl : (xs : List ℕ) → same xs xs ≡ true
unfolding same
same_refl [] = refl
same_refl (x ∷ xs) = let more : same xs xs ≡ true = same_refl xs in grind (arith, nat_tests)

-- a word that is too long for SHA-256 has no right sum
pub sum_none : (key w body : List ℕ) → body ≡ body_in w → false ≡ ltb (65 + length body) (2 ^ 61) → false ≡ sum_right key w
unfolding sum_right
sum_none key w body e long = ap (λ b. b && same (sum_in w) (sum_of key (body_in w))) (long ∙ ap (λ x. ltb (65 + length x) (2 ^ 61)) e)

-- a word that is short enough has a right sum exactly if its last bytes are the sum of all before them
pub sum_yes : (key w : List ℕ) → ltb (65 + length (body_in w)) (2 ^ 61) ≡ true → sum_in w ≡ sum_of key (body_in w) → sum_right key w ≡ true
unfolding sum_right
sum_yes key w short is =
    ap (λ b. b && same (sum_in w) (sum_of key (body_in w))) short ∙ subst (λ x. same (sum_in w) x ≡ true) is (same_refl (sum_in w))

pub sum_no : (key w : List ℕ) → sum_right key w ≡ true → sum_in w ≡ sum_of key (body_in w)
unfolding sum_right
sum_no key w right = same_true (sum_in w) (sum_of key (body_in w)) (grind (arith, nat_tests))

-- the sum that is computed
pub sum_computed : (key body right : List ℕ) (r : Result (List ℕ) Fault) → r ≡ Ok right → r ≡ limited (65 + length body) (sum_of key body) → right ≡ sum_of key body
sum_computed key body right r is value = by (ltb (65 + length body) (2 ^ 61)) (sym is ∙ value)
  where
    by : (b : Bool) → ◌≡◌ {A = Result (List ℕ) Fault} (Ok right) (cond b (Ok (sum_of key body)) (Err TooLong)) → right ≡ sum_of key body
    by true e = cc
    by false e = let z : ◌≡◌ {A = ℕ} 0 1 = cc in absurd (omega arith)

-- for the function that looks whether a sum is right
pub ruleset checking = (sum_none, sum_yes, sum_no)
