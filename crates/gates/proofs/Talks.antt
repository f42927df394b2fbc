-- What a gate's lists of talks and of waiting hellos hold after one was looked up, changed or taken away. Assumes nothing.
use Rattle.std.proofs.Common.{◌≡◌, ℕ, ◌+◌, Bool, true, false, cond, ◌&&◌, eqb, leb, List, [], ◌∷◌, ◌++◌, sym, refl, ap, ◌∙◌, subst, ⊎_elim}
use mathlib.Core.List.Memᴰ
use Rattle.std.proofs.lemmas.Bool.{eqb-true, eqb-false, and_parts, or_cases, eq-eqb, ne_eqb, cond-true, cond-false}
use Rattle.gates.specs.Lists.{In}
use Rattle.gates.specs.Talk.{Rules, Talk, may_come, may_send}
use Rattle.gates.specs.World.{Wait, Found, NoTalk, This, for_sending, by_mine, is_talk, comes_in, change, without_talk, waits_for, without_wait}
use Rattle.gates.proofs.Lists.{Each, each_none, each_cons, Distinct}

-- two talks with one own tag
abbrev pub SameTag : Talk → Talk → Type 0
SameTag t u = t.mine ≡ u.mine

-- a talk that was found is in the list, and P holds of it
abbrev pub Finds : (Talk → Type 0) → List Talk → Found → Type 0
Finds P ts NoTalk = Unit {0}
Finds P ts (This t) = In t ts × P t

finds_later : (P : Talk → Type 0) (u : Talk) (ts : List Talk) (f : Found) → Finds P ts f → Finds P (u ∷ ts) f
finds_later P u ts NoTalk h = tt
finds_later P u ts (This t) h = (Memᴰ.tail h.0, h.1)

-- what is sent by is a talk with that gate, by which one may send
pub for_sending_lem : (r : Rules) (now e : ℕ) (ts : List Talk) →
    Finds (λ t. (t.with' ≡ e) × (may_send r now t ≡ true)) ts (for_sending r now e ts)
unfolding for_sending
for_sending_lem r now e [] = tt
for_sending_lem r now e (t ∷ ts) =
    go (eqb t.with' e && may_send r now t) refl (finds_later _ t ts (for_sending r now e ts) (for_sending_lem r now e ts))
  where
    P : Talk → Type 0
    P u = (u.with' ≡ e) × (may_send r now u ≡ true)

    go : (b : Bool) → (eqb t.with' e && may_send r now t) ≡ b → Finds P (t ∷ ts) (for_sending r now e ts) →
        Finds P (t ∷ ts) (cond b (This t) (for_sending r now e ts))
    go true e' h =
        let p = and_parts (eqb t.with' e) (may_send r now t) e' in
        (Memᴰ.head refl, (eqb-true t.with' e p.0, p.1))
    go false e' h = h

-- what is found by its own tag is in the list
pub by_mine_lem : (m : ℕ) (ts : List Talk) → Finds (λ t. t.mine ≡ m) ts (by_mine m ts)
unfolding by_mine
by_mine_lem m [] = tt
by_mine_lem m (t ∷ ts) = go (eqb t.mine m) refl (finds_later _ t ts (by_mine m ts) (by_mine_lem m ts))
  where
    go : (b : Bool) → eqb t.mine m ≡ b → Finds (λ u. u.mine ≡ m) (t ∷ ts) (by_mine m ts) →
        Finds (λ u. u.mine ≡ m) (t ∷ ts) (cond b (This t) (by_mine m ts))
    go true e h = (Memᴰ.head refl, eqb-true t.mine m e)
    go false e h = h

-- a number comes in a talk that is there
pub comes_in_lem : (r : Rules) (now a m h n : ℕ) (ts : List Talk) → comes_in r now a m h n ts ≡ true →
    (t : Talk) × In t ts × (is_talk a m h t ≡ true) × (may_come r now n t ≡ true)
unfolding comes_in
comes_in_lem r now a m h n [] e = absurd (elim_false e)
  where
    elim_false : false ≡ true → ⊥
    elim_false p = subst (λ (b : Bool). cond b ⊥ (Unit {0})) p tt
comes_in_lem r now a m h n (t ∷ ts) e = go (is_talk a m h t) refl e (λ k. comes_in_lem r now a m h n ts k)
  where
    Result : Type 0
    Result = (u : Talk) × In u (t ∷ ts) × (is_talk a m h u ≡ true) × (may_come r now n u ≡ true)

    later : ((u : Talk) × In u ts × (is_talk a m h u ≡ true) × (may_come r now n u ≡ true)) → Result
    later k = (k.0, Memᴰ.tail k.1, k.2, k.3)

    go : (b : Bool) → is_talk a m h t ≡ b → cond b (may_come r now n t) (comes_in r now a m h n ts) ≡ true →
        (comes_in r now a m h n ts ≡ true → (u : Talk) × In u ts × (is_talk a m h u ≡ true) × (may_come r now n u ≡ true)) → Result
    go true i k rest = (t, Memᴰ.head refl, i, k)
    go false i k rest = later (rest k)

pub is_talk_lem : (a m h : ℕ) (t : Talk) → is_talk a m h t ≡ true → (t.with' ≡ a) × (t.mine ≡ m) × (t.theirs ≡ h)
is_talk_lem a m h t e =
    let p = and_parts (eqb t.with' a) (eqb t.mine m && eqb t.theirs h) e in
    let q = and_parts (eqb t.mine m) (eqb t.theirs h) p.1 in
    (eqb-true t.with' a p.0, eqb-true t.mine m q.0, eqb-true t.theirs h q.1)

-- what holds of a changed list: of the talk that was changed, and of all others as they were
pub each_change : (Q : Talk → Type 0) (m : ℕ) (f : Talk → Talk) (ts : List Talk) → Distinct SameTag ts →
    ((t : Talk) → In t ts → t.mine ≡ m → Q (f t)) → ((t : Talk) → In t ts → (t.mine ≡ m → ⊥) → Q t) → Each Q (change m f ts)
unfolding change Distinct
each_change Q m f [] d y n = each_none Q
each_change Q m f (t ∷ ts) d y n =
    go (eqb t.mine m) refl (each_change Q m f ts d.1 (λ u k. y u (Memᴰ.tail k)) (λ u k. n u (Memᴰ.tail k)))
  where
    go : (b : Bool) → eqb t.mine m ≡ b → Each Q (change m f ts) → Each Q (cond b (f t ∷ ts) (t ∷ change m f ts))
    go true e q =
        let s = eqb-true t.mine m e in
        each_cons Q (f t) ts (y t (Memᴰ.head refl) s) (λ u k. n u (Memᴰ.tail k) (λ h. d.0 u k (s ∙ sym h)))
    go false e q = each_cons Q t (change m f ts) (n t (Memᴰ.head refl) (eqb-false t.mine m e)) q

-- a change that keeps own tags brings no new ones
pub change-from : (m : ℕ) (f : Talk → Talk) → ((t : Talk) → (f t).mine ≡ t.mine) → (ts : List Talk) (u : Talk) → In u (change m f ts) →
    (v : Talk) × In v ts × (v.mine ≡ u.mine)
unfolding change
change-from m f keeps [] u i = absurd (Memᴰ.not-nil i)
change-from m f keeps (t ∷ ts) u i = go (eqb t.mine m) i (λ k. change-from m f keeps ts u k)
  where
    Result : Type 0
    Result = (v : Talk) × In v (t ∷ ts) × (v.mine ≡ u.mine)

    later : ((v : Talk) × In v ts × (v.mine ≡ u.mine)) → Result
    later k = (k.0, Memᴰ.tail k.1, k.2)

    go : (b : Bool) → In u (cond b (f t ∷ ts) (t ∷ change m f ts)) → (In u (change m f ts) → (v : Talk) × In v ts × (v.mine ≡ u.mine)) → Result
    go true j rest =
        ⊎_elim
        (λ (e : u ≡ f t). (t, Memᴰ.head refl, sym (keeps t) ∙ sym (ap (λ (z : Talk). z.mine) e)))
        (λ k. (u, Memᴰ.tail k, refl))
        (Memᴰ.cases_cons j)
    go false j rest = ⊎_elim (λ (e : u ≡ t). (t, Memᴰ.head refl, sym (ap (λ (z : Talk). z.mine) e))) (λ k. later (rest k)) (Memᴰ.cases_cons j)

pub distinct_change : (m : ℕ) (f : Talk → Talk) → ((t : Talk) → (f t).mine ≡ t.mine) → (ts : List Talk) → Distinct SameTag ts → Distinct SameTag (change m f ts)
unfolding change Distinct
distinct_change m f keeps [] d = tt
distinct_change m f keeps (t ∷ ts) d = go (eqb t.mine m) (distinct_change m f keeps ts d.1)
  where
    go : (b : Bool) → Distinct SameTag (change m f ts) → Distinct SameTag (cond b (f t ∷ ts) (t ∷ change m f ts))
    go true q = (λ u k s. d.0 u k (sym (keeps t) ∙ s), d.1)
    go false q = (λ u k s. let v = change-from m f keeps ts u k in d.0 v.0 v.1 (s ∙ sym v.2), q)

pub without_talk_lem : (m : ℕ) (ts : List Talk) (u : Talk) → In u (without_talk m ts) → In u ts
unfolding without_talk
without_talk_lem m [] u i = i
without_talk_lem m (t ∷ ts) u i = go (eqb t.mine m) i (λ k. without_talk_lem m ts u k)
  where
    go : (b : Bool) → In u (cond b (without_talk m ts) (t ∷ without_talk m ts)) → (In u (without_talk m ts) → In u ts) → In u (t ∷ ts)
    go true j rest = Memᴰ.tail (rest j)
    go false j rest = ⊎_elim (λ (e : u ≡ t). Memᴰ.head e) (λ k. Memᴰ.tail (rest k)) (Memᴰ.cases_cons j)

pub distinct_without : (m : ℕ) (ts : List Talk) → Distinct SameTag ts → Distinct SameTag (without_talk m ts)
unfolding without_talk Distinct
distinct_without m [] d = tt
distinct_without m (t ∷ ts) d = go (eqb t.mine m) (distinct_without m ts d.1)
  where
    go : (b : Bool) → Distinct SameTag (without_talk m ts) → Distinct SameTag (cond b (without_talk m ts) (t ∷ without_talk m ts))
    go true q = q
    go false q = (λ u k s. d.0 u (without_talk_lem m ts u k) s, q)

-- a hello that waits is in the list
pub waits_for_lem : (now e t : ℕ) (xs : List Wait) → waits_for now e t xs ≡ true → (x : Wait) × In x xs × (x.for' ≡ e) × (x.tag ≡ t)
unfolding waits_for
waits_for_lem now e t [] h = absurd (subst (λ (b : Bool). cond b ⊥ (Unit {0})) h tt)
waits_for_lem now e t (x ∷ xs) h =
    ⊎_elim first (λ k. later (waits_for_lem now e t xs k)) (or_cases (eqb x.for' e && (eqb x.tag t && leb now (x.at + 5))) (waits_for now e t xs) h)
  where
    Result : Type 0
    Result = (y : Wait) × In y (x ∷ xs) × (y.for' ≡ e) × (y.tag ≡ t)

    first : (eqb x.for' e && (eqb x.tag t && leb now (x.at + 5))) ≡ true → Result
    first k =
        let p = and_parts (eqb x.for' e) (eqb x.tag t && leb now (x.at + 5)) k in
        let q = and_parts (eqb x.tag t) (leb now (x.at + 5)) p.1 in
        (x, Memᴰ.head refl, eqb-true x.for' e p.0, eqb-true x.tag t q.0)

    later : ((y : Wait) × In y xs × (y.for' ≡ e) × (y.tag ≡ t)) → Result
    later k = (k.0, Memᴰ.tail k.1, k.2, k.3)

-- a hello that goes on waiting waited before, under another tag
pub without_wait_lem : (t : ℕ) (xs : List Wait) (y : Wait) → In y (without_wait t xs) → In y xs × (y.tag ≡ t → ⊥)
unfolding without_wait
without_wait_lem t [] y i = absurd (Memᴰ.not-nil i)
without_wait_lem t (x ∷ xs) y i = go (eqb x.tag t) refl i (λ k. without_wait_lem t xs y k)
  where
    later : (In y xs × (y.tag ≡ t → ⊥)) → In y (x ∷ xs) × (y.tag ≡ t → ⊥)
    later k = (Memᴰ.tail k.0, k.1)

    go : (b : Bool) → eqb x.tag t ≡ b → In y (cond b (without_wait t xs) (x ∷ without_wait t xs)) → (In y (without_wait t xs) → In y xs × (y.tag ≡ t → ⊥)) →
        In y (x ∷ xs) × (y.tag ≡ t → ⊥)
    go true e j rest = later (rest j)
    go false e j rest =
        ⊎_elim
        (λ (k : y ≡ x). (Memᴰ.head k, λ h. eqb-false x.tag t e (sym (ap (λ (z : Wait). z.tag) k) ∙ h)))
        (λ k. later (rest k))
        (Memᴰ.cases_cons j)

-- a number comes exactly if it may in the one talk that the tags name
pub comes_in_talk : (r : Rules) (now a m h n : ℕ) (ts : List Talk) (t : Talk) → Distinct SameTag ts → In t ts → is_talk a m h t ≡ true → comes_in r now a m h n ts ≡ may_come r now n t
unfolding comes_in Distinct
comes_in_talk r now a m h n [] t d i e = absurd (Memᴰ.not-nil i)
comes_in_talk r now a m h n (u ∷ us) t d i e = ⊎_elim here (λ k. there k (comes_in_talk r now a m h n us t d.1 k e)) (Memᴰ.cases_cons i)
  where
    here : t ≡ u → cond (is_talk a m h u) (may_come r now n u) (comes_in r now a m h n us) ≡ may_come r now n t
    here s =
        cond-true (is_talk a m h u) _ _ (subst (λ z. is_talk a m h z ≡ true) s e) ∙ ap (may_come r now n) (sym s)

    there : In t us → comes_in r now a m h n us ≡ may_come r now n t → cond (is_talk a m h u) (may_come r now n u) (comes_in r now a m h n us) ≡ may_come r now n t
    there k rest = cond-false (is_talk a m h u) _ _ (other (is_talk a m h u) refl) ∙ rest
      where
        other : (b : Bool) → is_talk a m h u ≡ b → is_talk a m h u ≡ false
        other true s = absurd (d.0 t k ((is_talk_lem a m h u s).1 ∙ sym (is_talk_lem a m h t e).1))
        other false s = s

-- and does not where there is none
pub comes_in_none : (r : Rules) (now a m h n : ℕ) (ts : List Talk) → ((t : Talk) → In t ts → is_talk a m h t ≡ false) → comes_in r now a m h n ts ≡ false
unfolding comes_in
comes_in_none r now a m h n [] none = refl
comes_in_none r now a m h n (t ∷ ts) none =
    cond-false (is_talk a m h t) _ _ (none t (Memᴰ.head refl)) ∙ comes_in_none r now a m h n ts (λ u k. none u (Memᴰ.tail k))

-- a change is of one talk, and of no other
pub change_splits : (m : ℕ) (f : Talk → Talk) (ts : List Talk) (t : Talk) → Distinct SameTag ts → In t ts → t.mine ≡ m →
    (before : List Talk) × (after : List Talk) × (ts ≡ before ++ (t ∷ after)) × (change m f ts ≡ before ++ (f t ∷ after))
unfolding change Distinct
change_splits m f [] t d i e = absurd (Memᴰ.not-nil i)
change_splits m f (u ∷ us) t d i e = ⊎_elim here (λ k. there k (change_splits m f us t d.1 k e)) (Memᴰ.cases_cons i)
  where
    Result : Type 0
    Result = (before : List Talk) × (after : List Talk) × (u ∷ us ≡ before ++ (t ∷ after)) × (cond (eqb u.mine m) (f u ∷ us) (u ∷ change m f us) ≡ before ++ (f t ∷ after))

    here : t ≡ u → Result
    here s = (
      [],
      us,
      ap (λ z. z ∷ us) (sym s),
      cond-true (eqb u.mine m) _ _ (eq-eqb u.mine m (ap (λ (z : Talk). z.mine) (sym s) ∙ e)) ∙ ap (λ z. f z ∷ us) (sym s),
    )

    there : In t us → ((before : List Talk) × (after : List Talk) × (us ≡ before ++ (t ∷ after)) × (change m f us ≡ before ++ (f t ∷ after))) → Result
    there k rest = (
      u ∷ rest.0,
      rest.1,
      ap (λ z. u ∷ z) rest.2,
      cond-false (eqb u.mine m) _ _ (ne_eqb u.mine m (λ s. d.0 t k (s ∙ sym e))) ∙ ap (λ z. u ∷ z) rest.3,
    )
