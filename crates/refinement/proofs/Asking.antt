-- Hellos that wait, in memory and in the abstract gate: of every tag and every later tick, whether one can still be answered. Assumes nothing.
use Rattle.std.proofs.Common.{◌≡◌, ℕ, zero, suc, ◌+◌, ◌<◌, Bool, true, false, cond, not, ◌&&◌, ◌||◌, eqb, leb, List, [], ◌∷◌, map, length, get_or, set, is_some, Some, None, Option, sym, refl, ap, ◌∙◌, le_of_suc-le-suc, arith}
use Rattle.std.proofs.Math.Bool.{and-false}
use Rattle.std.proofs.lemmas.Bool.{eqb-true, eqb-false, ne_eqb}
use Rattle.gates.specs.World.{waits_for, without_wait}
use Rattle.gates.specs.World.{Wait as Waiter}
use Rattle.gateway.specs.declared.state.Wait.{Wait}
use Rattle.gateway.specs.Slots.{first_that, emptied, holds}
use Rattle.gateway.specs.Peers.{can_answer, has_tag}

-- b: the tag is the one that goes; a: this one passes; c: another one does
kept : (a b c : Bool) → (b ≡ true → a ≡ false) → (a || (not b && c)) ≡ (not b && (a || c))
kept true true c h = h refl
kept false true c h = refl
kept a false c h = refl

gone : (a b c : Bool) → (b ≡ false → a ≡ false) → (not b && c) ≡ (not b && (a || c))
gone a true c h = refl
gone true false c h = absurd (cc (h refl))
gone false false c h = refl

never : (b : Bool) → false ≡ (not b && false)
never true = refl
never false = refl

-- whether anything in these places passes a test
abbrev any : {A : Type 0} → (A → Bool) → List (Option A) → Bool
any p xs = is_some (first_that p xs)

any_cons : {A : Type 0} (p : A → Bool) (x : A) (xs : List (Option A)) → any p (Some x ∷ xs) ≡ (p x || any p xs)
unfolding first_that
any_cons p x xs = go (p x)
  where
    go : (b : Bool) → is_some (cond b (Some x) (first_that p xs)) ≡ (b || any p xs)
    go true = refl
    go false = refl

-- one more in a place of which what stood there did not pass
pub any_set : {A : Type 0} (p : A → Bool) (y : A) (xs : List (Option A)) (i : ℕ) → i < length xs → holds p (get_or xs i None) ≡ false → any p (set xs i (Some y)) ≡ (p y || any p xs)
unfolding first_that
any_set p y [] i l f = absurd (omega arith)
any_set p y (None ∷ xs) zero l f = any_cons p y xs
any_set p y (Some x ∷ xs) zero l f = any_cons p y xs ∙ ap (λ z. p y || z) (sym (any_cons p x xs ∙ ap (λ b. b || any p xs) f))
any_set p y (None ∷ xs) (suc i) l f = any_set p y xs i (le_of_suc-le-suc l) f
any_set p y (Some x ∷ xs) (suc i) l f =
    any_cons p x (set xs i (Some y)) ∙ (ap (λ z. p x || z) (any_set p y xs i (le_of_suc-le-suc l) f) ∙ (swap (p x) (p y) (any p xs) ∙ ap (λ z. p y || z) (sym (any_cons p x xs))))
  where
    swap : (a b c : Bool) → (a || (b || c)) ≡ (b || (a || c))
    swap true true c = refl
    swap true false c = refl
    swap false b c = refl

-- one test after the places with a tag were emptied
pub any_cleared : (n t k : ℕ) (xs : List (Option Wait)) → any (can_answer n t) (map (emptied (has_tag k)) xs) ≡ (not (eqb k t) && any (can_answer n t) xs)
unfolding first_that
any_cleared n t k [] = never (eqb k t)
any_cleared n t k (None ∷ xs) = any_cleared n t k xs
any_cleared n t k (Some x ∷ xs) = by (eqb x.tag k) refl (any_cleared n t k xs)
  where
    by : (b : Bool) → eqb x.tag k ≡ b → any (can_answer n t) (map (emptied (has_tag k)) xs) ≡ (not (eqb k t) && any (can_answer n t) xs) →
        any (can_answer n t) (cond b None (Some x) ∷ map (emptied (has_tag k)) xs) ≡ (not (eqb k t) && any (can_answer n t) (Some x ∷ xs))
    by true s h =
        h ∙
        (gone (can_answer n t x) (eqb k t) (any (can_answer n t) xs) (λ f. let e : x.tag ≡ k = eqb-true x.tag k s in let g : k ≡ t → ⊥ = eqb-false k t f in ap (λ z. z && leb n (x.at + 5)) (ne_eqb x.tag t (λ q. g (sym e ∙ q)))) ∙
        ap (λ z. not (eqb k t) && z) (sym (any_cons (can_answer n t) x xs)))
    by false s h =
        any_cons (can_answer n t) x (map (emptied (has_tag k)) xs) ∙
        (ap (λ z. can_answer n t x || z) h ∙
        (kept (can_answer n t x) (eqb k t) (any (can_answer n t) xs) (λ f. ap (λ z. z && leb n (x.at + 5)) (ne_eqb x.tag t (λ q. eqb-false x.tag k s (q ∙ sym (eqb-true k t f))))) ∙
        ap (λ z. not (eqb k t) && z) (sym (any_cons (can_answer n t) x xs))))

-- the same of the abstract gate's
pub waits_without : (n e t k : ℕ) (xs : List Waiter) → waits_for n e t (without_wait k xs) ≡ (not (eqb k t) && waits_for n e t xs)
unfolding waits_for without_wait
waits_without n e t k [] = never (eqb k t)
waits_without n e t k (x ∷ xs) = by (eqb x.tag k) refl (waits_without n e t k xs)
  where
    none : eqb x.tag t ≡ false → (eqb x.for' e && (eqb x.tag t && leb n (x.at + 5))) ≡ false
    none h = ap (λ z. eqb x.for' e && (z && leb n (x.at + 5))) h ∙ and-false (eqb x.for' e)

    by : (b : Bool) → eqb x.tag k ≡ b → waits_for n e t (without_wait k xs) ≡ (not (eqb k t) && waits_for n e t xs) →
        waits_for n e t (cond b (without_wait k xs) (x ∷ without_wait k xs)) ≡ (not (eqb k t) && ((eqb x.for' e && (eqb x.tag t && leb n (x.at + 5))) || waits_for n e t xs))
    by true s h = h ∙ gone _ (eqb k t) (waits_for n e t xs) (λ f. none (ne_eqb x.tag t (λ q. eqb-false k t f (sym (eqb-true x.tag k s) ∙ q))))
    by false s h =
        ap (λ z. (eqb x.for' e && (eqb x.tag t && leb n (x.at + 5))) || z) h ∙
        kept _ (eqb k t) (waits_for n e t xs) (λ f. none (ne_eqb x.tag t (λ q. eqb-false x.tag k s (q ∙ sym (eqb-true k t f)))))
