-- What searches along places find, a map in place, and what a change in the first place that passes a test leaves. Assumes nothing.
use Rattle.std.proofs.Common.{◌≡◌, ℕ, zero, suc, ◌+◌, ◌<◌, ◌≤◌, Bool, true, false, cond, ltb, List, [], ◌∷◌, ◌++◌, map, length, get_or, take, drop, set, Some, None, Option, is_some, Bor, sym, refl, ap, ◌∙◌, subst, append-nil, suc-le-suc, length-append, length-drop, length-take, arith}
use denote.Param.Members.{Mut}
use Rattle.std.proofs.lemmas.Bool.{false≢true, cond-true, cond-false, ltb-false}
use Rattle.std.proofs.lemmas.Iterator.{YieldsList-from_slice}
use Rattle.std.proofs.lemmas.Iterator.Search.{find_from_yields_List, any_from_yields_List}
use Rattle.std.proofs.lemmas.List.{take_all, drop_all, get_or_default, length-map}
use Rattle.std.proofs.lemmas.List.Edits.{map_over_more}
use Rattle.std.proofs.lemmas.List.Quantifiers.{position-Some}
use Rattle.std.proofs.lemmas.List.Sums.{fails_before_first}
use Rattle.std.specs.Bool.{⊤}
use Rattle.std.specs.Fn.{Called, CalledAt}
use Rattle.std.specs.Iterator.{YieldsThen}
use Rattle.std.specs.List.{find, list_any, FoldsTo, position, position_or_len}
use Rattle.std.specs.Option.{option_map, unwrap_or, MatchOption}
use Rattle.std.specs.Slice.Iter.{iter_rest, iter_steps}
use Rattle.std.specs.declared.slice.Iter.{Iter}
use Rattle.gateway.specs.Slots.{first_that, replaced, holds}

-- the first place whose holder passes, and whether there is one
found : {A : Type 0} (b : Bool) (x : A) (o : Option (Option A)) (r : Option A) → unwrap_or o None ≡ r → unwrap_or (cond b (Some (Some x)) o) None ≡ cond b (Some x) r
found true x o r e = refl
found false x o r e = e

find_that : {A : Type 0} (p : A → Bool) (xs : List (Option A)) → unwrap_or (find (holds p) xs) None ≡ first_that p xs
unfolding first_that
find_that p [] = refl
find_that p (None ∷ xs) = find_that p xs
find_that p (Some x ∷ xs) = found (p x) x (find (holds p) xs) (first_that p xs) (find_that p xs)

any_that : {A : Type 0} (p : A → Bool) (xs : List (Option A)) → list_any (holds p) xs ≡ is_some (first_that p xs)
unfolding first_that
any_that p [] = refl
any_that p (None ∷ xs) = any_that p xs
any_that p (Some x ∷ xs) = grind (arith, any_that p xs)

-- A search along places, of which nothing was taken yet.
module _ {A F : Type 0} {s : Iter (Option A)} (test : A → Bool) (u : Iter (Option A)) (f : F) where
  -- `find` finds the first whose holder passes
  pub find_first : {g : Mut F (Bor (Bor (Option A)) × Unit {0}) Bool} (r : Option (Bor (Option A))) (xs : List (Option A)) →
      (ys : List (Bor (Option A))) × (j : F) × YieldsThen iter_steps s ys r u × FoldsTo (λ p x q. CalledAt g p x false q) f ys j × MatchOption r ⊤ (λ x. (h : F) × CalledAt g j x true h) →
      iter_rest s ≡ xs → ((x : Bor (Option A)) (b : Bool) (q : F) → CalledAt g f x b q → (q ≡ f) × (b ≡ holds test x.now)) →
      {t : Option (Bor (Option A))} → r ≡ t → unwrap_or (option_map (λ x. x.now) t) None ≡ first_that test xs
  find_first r xs ran o calls e =
      ap (λ z. unwrap_or (option_map (λ x. x.now) z) None) (sym e) ∙ ap (λ z. unwrap_or z None) (find_from_yields_List (holds test) u f r ran (YieldsList-from_slice xs o) calls) ∙ find_that test xs

  -- `any` says whether one's holder passes
  pub any_first : {g : Mut F (Bor (Option A) × Unit {0}) Bool} (r : Bool) (xs : List (Option A)) →
      (ys : List (Bor (Option A))) × (o : Option (Bor (Option A))) × (j : F) × YieldsThen iter_steps s ys o u × FoldsTo (λ p x q. Called g p (x, tt) false q) f ys j ×
      MatchOption o (r ≡ false) (λ x. (r ≡ true) × ((h : F) × Called g j (x, tt) true h)) →
      iter_rest s ≡ xs → ((x : Bor (Option A)) (b : Bool) (q : F) → Called g f (x, tt) b q → (q ≡ f) × (b ≡ holds test x.now)) → r ≡ is_some (first_that test xs)
  any_first r xs ran o calls = any_from_yields_List (holds test) u f r ran (YieldsList-from_slice xs o) calls ∙ any_that test xs

-- What a loop over places knows of those that it has passed, and what it finds.

-- what stands in a place does not pass a test
abbrev pub Fails : {A : Type 0} → (A → Bool) → Option A → Type 0
Fails p None = Unit {0}
Fails p (Some x) = p x ≡ false

-- nothing in the first n places passes a test
abbrev pub Passed : {A : Type 0} → (A → Bool) → List (Option A) → ℕ → Type 0
Passed p xs n = (k : ℕ) → k < n → Fails p (get_or xs k None)

fails_none : {A : Type 0} (p : A → Bool) (o : Option A) → o ≡ None → Fails p o
fails_none p o e = subst (Fails p) (sym e) tt

pub fails_some : {A : Type 0} (p : A → Bool) (o : Option A) (x : A) → o ≡ Some x → p x ≡ false → Fails p o
fails_some p o x e f = subst (Fails p) (sym e) f

-- in an empty place nothing passes
pub fails_empty : {A : Type 0} (p : A → Bool) (o : Option A) → ((x : A) → o ≡ Some x → ⊥) → Fails p o
fails_empty p None h = tt
fails_empty p (Some x) h = absurd (h x refl)

module _ {A : Type 0} (p : A → Bool) where
  not_some : (x : A) → ◌≡◌ {A = Option A} None (Some x) → ⊥
  not_some x e = let z : ◌≡◌ {A = ℕ} 0 1 = cc in omega arith

  later : (x : Option A) (xs : List (Option A)) (n : ℕ) → Passed p (x ∷ xs) (suc n) → Passed p xs n
  later x xs n h k l = h (suc k) (suc-le-suc l)

  pub first-at : (xs : List (Option A)) (i : ℕ) (x : A) → Passed p xs i → get_or xs i None ≡ Some x → p x ≡ true → Some x ≡ first_that p xs
  unfolding first_that
  first-at [] zero x h e t = absurd (not_some x e)
  first-at [] (suc i) x h e t = absurd (not_some x e)
  first-at (None ∷ xs) zero x h e t = absurd (not_some x e)
  first-at (None ∷ xs) (suc i) x h e t = first-at xs i x (later None xs i h) e t
  first-at (Some y ∷ xs) zero x h e t = let s : y ≡ x = cc in sym (cond-true (p y) (Some y) (first_that p xs) (ap p s ∙ t) ∙ e)
  first-at (Some y ∷ xs) (suc i) x h e t =
      first-at xs i x (later (Some y) xs i h) e t ∙ sym (cond-false (p y) (Some y) (first_that p xs) (h 0 (omega arith)))

  pub first-all : (xs : List (Option A)) → Passed p xs (length xs) → None ≡ first_that p xs
  unfolding first_that
  first-all [] h = refl
  first-all (None ∷ xs) h = first-all xs (later None xs (length xs) h)
  first-all (Some y ∷ xs) h = first-all xs (later (Some y) xs (length xs) h) ∙ sym (cond-false (p y) (Some y) (first_that p xs) (h 0 (omega arith)))

-- a map in place, one place further, where d is read past the end; and at its end
pub mapped_more : {X : Type 0} (f : X → X) (d : X) (xs ys : List X) (i : ℕ) → i < length xs → ys ≡ map f (take i xs) ++ drop i xs →
    set ys i (f (get_or ys i d)) ≡ map f (take (i + 1) xs) ++ drop (i + 1) xs
mapped_more f d xs ys i h e =
    let l : length ys ≡ length (map f (take i xs) ++ drop i xs) = ap length e in
    map_over_more f xs ys i (get_or ys i d) h e (get_or_default ys i d (get_or ys i d) (omega (arith, simp (length-append, length-map, length-take, length-drop) at l)))

pub mapped_all : {X : Type 0} (f : X → X) (xs ys : List X) (i : ℕ) → length xs ≤ i → ys ≡ map f (take i xs) ++ drop i xs → ys ≡ map f xs
mapped_all f xs ys i h e = e ∙ (ap (λ zs. map f zs ++ drop i xs) (take_all i xs h) ∙ (ap (λ zs. map f xs ++ zs) (drop_all i xs h) ∙ append-nil (map f xs)))

-- The place of the first that passes a test, and that one replaced.
module _ {A : Type 0} (p : A → Bool) (y : A) where
  replaced_from : (xs : List (Option A)) (i : ℕ) → i < length xs → holds p (get_or xs i None) ≡ true →
      ((k : ℕ) → k < i → holds p (get_or xs k None) ≡ false) → set xs i (Some y) ≡ replaced p y xs
  unfolding replaced
  replaced_from [] i l t f = absurd (omega arith)
  replaced_from (None ∷ xs) zero l t f = absurd (false≢true t)
  replaced_from (None ∷ xs) (suc i) l t f = ap (λ zs. None ∷ zs) (replaced_from xs i (omega arith) t (λ k m. f (suc k) (omega arith)))
  replaced_from (Some x ∷ xs) zero l t f = sym (cond-true (p x) (Some y ∷ xs) (Some x ∷ replaced p y xs) t)
  replaced_from (Some x ∷ xs) (suc i) l t f =
      ap (λ zs. Some x ∷ zs) (replaced_from xs i (omega arith) t (λ k m. f (suc k) (omega arith))) ∙ sym (cond-false (p x) (Some y ∷ xs) (Some x ∷ replaced p y xs) (f 0 (omega arith)))

  replaced_none : (xs : List (Option A)) → ((k : ℕ) → k < length xs → holds p (get_or xs k None) ≡ false) → xs ≡ replaced p y xs
  unfolding replaced
  replaced_none [] f = refl
  replaced_none (None ∷ xs) f = ap (λ zs. None ∷ zs) (replaced_none xs (λ k m. f (suc k) (omega arith)))
  replaced_none (Some x ∷ xs) f =
      ap (λ zs. Some x ∷ zs) (replaced_none xs (λ k m. f (suc k) (omega arith))) ∙ sym (cond-false (p x) (Some y ∷ xs) (Some x ∷ replaced p y xs) (f 0 (omega arith)))

  pub replaced_at : (xs : List (Option A)) (i : ℕ) → position (holds p) xs ≡ Some i → set xs i (Some y) ≡ replaced p y xs
  replaced_at xs i e = let f = position-Some (holds p) xs i None e in replaced_from xs i f.0 f.1 f.2

  pub replaced_nowhere : (xs : List (Option A)) → position (holds p) xs ≡ None → xs ≡ replaced p y xs
  replaced_nowhere xs e = replaced_none xs (λ k l. fails_before_first (holds p) xs k None (go (ltb (position_or_len (holds p) xs) (length xs)) refl e k l))
    where
      go : (b : Bool) → ltb (position_or_len (holds p) xs) (length xs) ≡ b → ◌≡◌ {A = Option ℕ} (cond b (Some (position_or_len (holds p) xs)) None) None →
          (k : ℕ) → k < length xs → k < position_or_len (holds p) xs
      go true m n k l = absurd (false≢true (sym (ap is_some n)))
      go false m n k l = let h = ltb-false (position_or_len (holds p) xs) (length xs) m in omega arith
