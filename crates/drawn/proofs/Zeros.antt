-- Zeros at the front of bytes, and the first byte that is none. Assumes nothing.
use Rattle.std.proofs.Common.{◌≡◌, ℕ, zero, suc, ◌+◌, ◌-◌, ◌<◌, ◌≤◌, Bool, true, false, cond, eqb, List, length, get_or, take, drop, Some, None, Option, sym, refl, ap, ◌∙◌, subst, arith, length-drop, get_or-drop}
use Rattle.std.proofs.lemmas.Bool.{leb-true}
use Rattle.std.proofs.lemmas.List.{get_or-take}
use Rattle.std.proofs.lemmas.List.Sums.{prefix_len_stops}
use Rattle.std.proofs.lemmas.List.Folds.{length-prefix_len}
use Rattle.std.specs.List.{prefix_len}
use Rattle.std.proofs.lemmas.Bool.Decides.{nat_tests}
use Rattle.drawn.specs.declared.state.Draw.{Draw}
use Rattle.drawn.specs.Draws.{zeros, passed_over, tag_at, draw_at, draw_of, spent_of, from_tag, enough, TagsAreTags}

is_zero : ℕ → Bool
is_zero b = eqb b 0

-- the byte behind the zeros is none
pub behind : (bs : List ℕ) → zeros bs < length bs → 0 < get_or bs (zeros bs) 0
unfolding is_zero
behind bs h =
    let counted : zeros bs ≡ prefix_len is_zero bs = length-prefix_len is_zero bs in
    let stops : eqb (get_or bs (prefix_len is_zero bs) 0) 0 ≡ false = prefix_len_stops is_zero bs 0 (omega (arith, counted)) in
    rw counted (grind (arith, nat_tests, stops))

-- a number of eight bytes one of which is not 0 is not 0
pub positive : (k : ℕ) (xs : List ℕ) → k < 8 → 0 < get_or xs k 0 → 0 < tag_at xs
positive zero xs h q = omega arith
positive (suc zero) xs h q = omega arith
positive (suc (suc zero)) xs h q = omega arith
positive (suc (suc (suc zero))) xs h q = omega arith
positive (suc (suc (suc (suc zero)))) xs h q = omega arith
positive (suc (suc (suc (suc (suc zero))))) xs h q = omega arith
positive (suc (suc (suc (suc (suc (suc zero)))))) xs h q = omega arith
positive (suc (suc (suc (suc (suc (suc (suc zero))))))) xs h q = omega arith
positive (suc (suc (suc (suc (suc (suc (suc (suc k)))))))) xs h q = omega arith

not_zero : (bytes : List ℕ) (d : Draw) → draw_of bytes ≡ Some d → 0 < d.tag
unfolding draw_of
not_zero bytes d e = drawn (enough bytes) refl e
  where
    drawn : (t : Bool) → enough bytes ≡ t → ◌≡◌ {A = Option Draw} (cond t (Some (draw_at (from_tag bytes))) None) (Some d) → 0 < d.tag
    drawn true q s =
        let long : 24 ≤ length bytes - passed_over bytes = simp length-drop at (leb-true 24 (length (from_tag bytes)) q) in
        let inside : zeros bytes < length bytes = omega arith in
        let same : tag_at (from_tag bytes) ≡ d.tag = cc in
        let there : 0 < get_or (from_tag bytes) (zeros bytes - passed_over bytes) 0 = rw (get_or-drop (passed_over bytes) bytes) (subst (λ (k : ℕ). 0 < get_or bytes k 0) (omega arith) (behind bytes inside)) in
        let tag : 0 < tag_at (from_tag bytes) = positive (zeros bytes - passed_over bytes) (from_tag bytes) (omega arith) there in
        omega (arith, same, tag)
    drawn false q s = let z : ◌≡◌ {A = ℕ} 0 1 = cc in omega arith

pub tags_are_tags : TagsAreTags
unfolding draw_of spent_of
tags_are_tags = record { not_zero = not_zero; passes = refl; takes = refl; none = refl; short = (refl, refl) }

-- a tag is read from its eight bytes alone
tag-front : (xs : List ℕ) → tag_at (take 8 xs) ≡ tag_at xs
tag-front xs =
    let at : (k : ℕ) → k < 8 → get_or (take 8 xs) k 0 ≡ get_or xs k 0 = λ k h. get_or-take 8 xs k 0 h in
    omega (arith, at 0 (omega arith), at 1 (omega arith), at 2 (omega arith), at 3 (omega arith), at 4 (omega arith), at 5 (omega arith), at 6 (omega arith), at 7 (omega arith))

-- a tag and sixteen bytes, each cut off at the front, are what is drawn
pub drawn_here : (bytes tag drawn : List ℕ) (number : ℕ) → number ≡ tag_at tag → 24 ≤ length (from_tag bytes) → tag ≡ take 8 (from_tag bytes) → drawn ≡ take 16 (drop 8 (from_tag bytes)) → draw_of bytes ≡ Some (record { tag = number; bytes = drawn })
unfolding draw_of
drawn_here bytes tag drawn number read long first then =
    let there : enough bytes ≡ true = grind (arith, nat_tests) in
    let same : tag_at (from_tag bytes) ≡ number = sym (read ∙ ap tag_at first ∙ tag-front (from_tag bytes)) in
    ap (λ t. cond t (Some (draw_at (from_tag bytes))) None) there ∙ (λ i. Some (record { tag = same i; bytes = sym then i }))

pub spent_here : (bytes : List ℕ) → 24 ≤ length (from_tag bytes) → spent_of bytes ≡ passed_over bytes + 24
unfolding spent_of
spent_here bytes long =
    let there : enough bytes ≡ true = grind (arith, nat_tests) in
    ap (λ t. cond t (passed_over bytes + 24) 0) there
