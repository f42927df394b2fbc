-- Places in memory that agree with an abstract gate's talks: what is found in both, and that they go on agreeing. Assumes nothing.
use Rattle.std.proofs.Common.{◌≡◌, ℕ, Bool, true, false, cond, ◌&&◌, eqb, ◌⊎◌, List, [], ◌∷◌, length, get_or, take, is_ok, Some, None, Option, sym, refl, ap, ◌∙◌, subst, inl, inr, ⊎_elim, arith}
use mathlib.Core.List.Memᴰ
use Rattle.std.proofs.lemmas.Bool.{cond-true, cond-false, eqb-true, eqb-false, eq-eqb, ne_eqb, both_ways}
use Rattle.gates.specs.Lists.{In}
use Rattle.gates.specs.Talk.{Rules}
use Rattle.gates.specs.Talk as abstract
use Rattle.gates.specs.Talk.{Talk as Session}
use Rattle.gates.specs.World.{Found, NoTalk, This, is_talk, comes_in, change, without_talk}
use Rattle.gates.specs.World as worlds
use Rattle.gates.proofs.Lists.{Distinct}
use Rattle.gates.proofs.Talks.{SameTag}
use Rattle.window.specs.Heard.{look_bits, is_fresh, verdict_of}
use Rattle.window.specs.declared.state.Verdict.{Verdict}
use Rattle.window.specs.declared.state.Verdict.TheVariants.{Fresh, TooOld, Came}
use Rattle.window.proofs.Heard.{look-stands, as_in_talks}
use Rattle.gateway.specs.declared.state.Talk.{Talk}
use Rattle.gateway.specs.Slots.{first_that, replaced}
use Rattle.gateway.specs.Talks.{lives, may_send, names}
use Rattle.gateway.specs.Peers.{same_tag}
use Rattle.gateway.specs.Steps.{by_verdict, found_in}
use Rattle.refinement.specs.Relation.{rules_of, with_peer, SameTalk, Vacant, Agrees}

vacant_first : (q : Talk → Bool) (us : List (Option Talk)) → Vacant us → first_that q us ≡ None
unfolding Vacant first_that
vacant_first q [] v = refl
vacant_first q (None ∷ us) v = vacant_first q us v
vacant_first q (Some u ∷ us) v = absurd v

-- what is found in memory stands for a talk
pub found_same : (q : Talk → Bool) (ts : List Session) (us : List (Option Talk)) (u : Talk) → Agrees ts us → first_that q us ≡ Some u →
    (t : Session) × In t ts × SameTalk t u × (q u ≡ true)
unfolding Agrees first_that
found_same q [] us u a e = absurd (cc (vacant_first q us a))
found_same q (t ∷ ts) [] u a e = absurd a
found_same q (t ∷ ts) (None ∷ us) u a e = absurd a
found_same q (t ∷ ts) (Some v ∷ us) u a e = go (q v) refl e (λ k. found_same q ts us u a.1 k)
  where
    Result' : Type 0
    Result' = (z : Session) × In z (t ∷ ts) × SameTalk z u × (q u ≡ true)

    go : (b : Bool) → q v ≡ b → cond b (Some v) (first_that q us) ≡ Some u → (first_that q us ≡ Some u → (z : Session) × In z ts × SameTalk z u × (q u ≡ true)) → Result'
    go true s k rest = let p : v ≡ u = cc in (t, Memᴰ.head refl, subst (SameTalk t) p a.0, sym (ap q p) ∙ s)
    go false s k rest = let z = rest k in (z.0, Memᴰ.tail z.1, z.2, z.3)

-- the first talk that passes a test
unfoldable first_session : (Session → Bool) → List Session → Found
first_session p [] = NoTalk
first_session p (t ∷ ts) = cond (p t) (This t) (first_session p ts)

-- a talk was found in both, or in neither
abbrev pub FoundBoth : List Session → Found → Option Talk → Type 0
FoundBoth ts NoTalk None = Unit {0}
FoundBoth ts NoTalk (Some u) = ⊥
FoundBoth ts (This t) None = ⊥
FoundBoth ts (This t) (Some u) = In t ts × SameTalk t u

first_both : (p : Session → Bool) (q : Talk → Bool) → ((t : Session) (u : Talk) → SameTalk t u → p t ≡ q u) → (ts : List Session) (us : List (Option Talk)) → Agrees ts us →
    FoundBoth ts (first_session p ts) (first_that q us)
unfolding Agrees first_that first_session
first_both p q same [] us a = subst (FoundBoth [] NoTalk) (sym (vacant_first q us a)) tt
first_both p q same (t ∷ ts) [] a = absurd a
first_both p q same (t ∷ ts) (None ∷ us) a = absurd a
first_both p q same (t ∷ ts) (Some u ∷ us) a = go (p t) refl (q u) refl (first_both p q same ts us a.1)
  where
    later : (f : Found) (o : Option Talk) → FoundBoth ts f o → FoundBoth (t ∷ ts) f o
    later NoTalk None h = tt
    later NoTalk (Some v) h = absurd h
    later (This z) None h = absurd h
    later (This z) (Some v) h = (Memᴰ.tail h.0, h.1)

    go : (b : Bool) → p t ≡ b → (c : Bool) → q u ≡ c → FoundBoth ts (first_session p ts) (first_that q us) →
        FoundBoth (t ∷ ts) (cond b (This t) (first_session p ts)) (cond c (Some u) (first_that q us))
    go true s true k rest = (Memᴰ.head refl, a.0)
    go true s false k rest = absurd (both_ways (q u) k (sym (same t u a.0) ∙ s))
    go false s true k rest = absurd (both_ways (q u) (sym (same t u a.0) ∙ s) k)
    go false s false k rest = later (first_session p ts) (first_that q us) rest

-- looking for a talk to send by among all is looking among those with that gate
sending_peer : (r : Rules) (now e : ℕ) (ts : List Session) → worlds.for_sending r now e ts ≡ first_session (abstract.may_send r now) (with_peer e ts)
unfolding worlds.for_sending first_session with_peer
sending_peer r now e [] = refl
sending_peer r now e (t ∷ ts) = go (eqb t.with' e) (sending_peer r now e ts)
  where
    go : (b : Bool) → worlds.for_sending r now e ts ≡ first_session (abstract.may_send r now) (with_peer e ts) →
        cond (b && abstract.may_send r now t) (This t) (worlds.for_sending r now e ts) ≡ first_session (abstract.may_send r now) (cond b (t ∷ with_peer e ts) (with_peer e ts))
    go true rest = ap (λ z. cond (abstract.may_send r now t) (This t) z) rest
    go false rest = rest

pub peer_in : (e : ℕ) (ts : List Session) (t : Session) → In t (with_peer e ts) → In t ts × (t.with' ≡ e)
unfolding with_peer
peer_in e [] t i = absurd (Memᴰ.not-nil i)
peer_in e (u ∷ us) t i = go (eqb u.with' e) refl i (λ k. peer_in e us t k)
  where
    later : In t us × (t.with' ≡ e) → In t (u ∷ us) × (t.with' ≡ e)
    later h = (Memᴰ.tail h.0, h.1)

    go : (b : Bool) → eqb u.with' e ≡ b → In t (cond b (u ∷ with_peer e us) (with_peer e us)) → (In t (with_peer e us) → In t us × (t.with' ≡ e)) →
        In t (u ∷ us) × (t.with' ≡ e)
    go true s j rest = ⊎_elim (λ (k : t ≡ u). (Memᴰ.head k, ap (λ (z : Session). z.with') k ∙ eqb-true u.with' e s)) (λ k. later (rest k)) (Memᴰ.cases_cons j)
    go false s j rest = later (rest j)

module _ (life most : ℕ) (owner : ℕ → ℕ) where
  abbrev r : Rules
  r = rules_of life most owner

  send_same : (now : ℕ) (t : Session) (u : Talk) → SameTalk t u → abstract.may_send r now t ≡ may_send now life most u
  send_same now t u h = cc (h.sure_so, h.born_so, h.sent_so)

  -- the talk to send by is found in both, or in neither
  pub sending_both : (now e : ℕ) (ts : List Session) (us : List (Option Talk)) → Agrees (with_peer e ts) us →
      FoundBoth (with_peer e ts) (worlds.for_sending r now e ts) (first_that (may_send now life most) us)
  sending_both now e ts us a =
      subst
      (λ f. FoundBoth (with_peer e ts) f (first_that (may_send now life most) us))
      (sym (sending_peer r now e ts))
      (first_both (abstract.may_send r now) (may_send now life most) (send_same now) (with_peer e ts) us a)

  verdict-ok : (v : Verdict) (u : Talk) → is_fresh v ≡ is_ok (by_verdict v u)
  verdict-ok Fresh u = refl
  verdict-ok TooOld u = refl
  verdict-ok Came u = refl

  -- a number may come in a talk exactly if the memory's says so
  come_same : (now n : ℕ) (t : Session) (u : Talk) → SameTalk t u → abstract.may_come r now n t ≡ is_ok (found_in now life n (Some u))
  come_same now n t u h =
      as_in_talks r t now n refl ∙ go (abstract.lives r now t) refl
    where
      both : is_fresh (verdict_of t.top t.heard n) ≡ is_ok (by_verdict (look_bits u.window n) u)
      both = ap is_fresh (sym (look-stands u.window t.top t.heard n h.window_so)) ∙ verdict-ok (look_bits u.window n) u

      same-life : lives now life u ≡ abstract.lives r now t
      same-life = cc h.born_so

      go : (b : Bool) → abstract.lives r now t ≡ b → (b && is_fresh (verdict_of t.top t.heard n)) ≡ is_ok (found_in now life n (Some u))
      go true s = both ∙ ap is_ok (sym (cond-true (lives now life u) _ _ (same-life ∙ s)))
      go false s = ap is_ok (sym (cond-false (lives now life u) _ _ (same-life ∙ s)))

  -- a number comes among all talks exactly if it does in the talk that memory finds
  pub comes_both : (now a m h n : ℕ) (ts : List Session) (us : List (Option Talk)) → Agrees (with_peer a ts) us →
      comes_in r now a m h n ts ≡ is_ok (found_in now life n (first_that (names m h) us))
  unfolding comes_in with_peer Agrees first_that
  comes_both now a m h n [] us g = sym (ap (λ o. is_ok (found_in now life n o)) (vacant_first (names m h) us g))
  comes_both now a m h n (t ∷ ts) us g = go (eqb t.with' a) us g (λ vs k. comes_both now a m h n ts vs k)
    where
      go : (b : Bool) (vs : List (Option Talk)) → Agrees (cond b (t ∷ with_peer a ts) (with_peer a ts)) vs →
          ((ws : List (Option Talk)) → Agrees (with_peer a ts) ws → comes_in r now a m h n ts ≡ is_ok (found_in now life n (first_that (names m h) ws))) →
          cond (b && (eqb t.mine m && eqb t.theirs h)) (abstract.may_come r now n t) (comes_in r now a m h n ts) ≡ is_ok (found_in now life n (first_that (names m h) vs))
      go false vs k rest = rest vs k
      go true [] k rest = absurd k
      go true (None ∷ vs) k rest = absurd k
      go true (Some u ∷ vs) k rest = by (eqb t.mine m && eqb t.theirs h) refl
        where
          named : names m h u ≡ (eqb t.mine m && eqb t.theirs h)
          named = cc (k.0.mine_so, k.0.theirs_so)

          by : (c : Bool) → (eqb t.mine m && eqb t.theirs h) ≡ c →
              cond c (abstract.may_come r now n t) (comes_in r now a m h n ts) ≡ is_ok (found_in now life n (cond (names m h u) (Some u) (first_that (names m h) vs)))
          by true s = come_same now n t u k.0 ∙ ap (λ o. is_ok (found_in now life n o)) (sym (cond-true (names m h u) _ _ (named ∙ s)))
          by false s = rest vs k.1 ∙ ap (λ o. is_ok (found_in now life n o)) (sym (cond-false (names m h u) _ _ (named ∙ s)))

-- a talk that is with gate e is among those with it
pub in-peer : (e : ℕ) (ts : List Session) (t : Session) → In t ts → t.with' ≡ e → In t (with_peer e ts)
unfolding with_peer
in-peer e [] t i s = i
in-peer e (u ∷ us) t i s = go (eqb u.with' e) refl (Memᴰ.cases_cons i) (λ k. in-peer e us t k s)
  where
    go : (b : Bool) → eqb u.with' e ≡ b → (t ≡ u) ⊎ In t us → (In t us → In t (with_peer e us)) → In t (cond b (u ∷ with_peer e us) (with_peer e us))
    go true k (inl p) rest = Memᴰ.head p
    go true k (inr p) rest = Memᴰ.tail (rest p)
    go false k (inl p) rest = absurd (eqb-false u.with' e k (sym (ap (λ (z : Session). z.with') p) ∙ s))
    go false k (inr p) rest = rest p

pub distinct_peer : (e : ℕ) (ts : List Session) → Distinct SameTag ts → Distinct SameTag (with_peer e ts)
unfolding with_peer Distinct
distinct_peer e [] d = tt
distinct_peer e (t ∷ ts) d = go (eqb t.with' e) (distinct_peer e ts d.1)
  where
    go : (b : Bool) → Distinct SameTag (with_peer e ts) → Distinct SameTag (cond b (t ∷ with_peer e ts) (with_peer e ts))
    go true q = (λ u i s. d.0 u (peer_in e ts u i).0 s, q)
    go false q = q

-- a change of a talk that is not there changes nothing
pub change_absent : (m : ℕ) (f : Session → Session) (ts : List Session) → ((t : Session) → In t ts → t.mine ≡ m → ⊥) → change m f ts ≡ ts
unfolding change
change_absent m f [] n = refl
change_absent m f (t ∷ ts) n =
    cond-false (eqb t.mine m) _ _ (ne_eqb t.mine m (n t (Memᴰ.head refl))) ∙ ap (λ z. t ∷ z) (change_absent m f ts (λ u i. n u (Memᴰ.tail i)))

-- changing a talk and looking at those with gate e go in either order
pub change_peer : (e m : ℕ) (f : Session → Session) → ((t : Session) → (f t).with' ≡ t.with') → (ts : List Session) → Distinct SameTag ts →
    with_peer e (change m f ts) ≡ change m f (with_peer e ts)
unfolding with_peer change Distinct
change_peer e m f keeps [] d = refl
change_peer e m f keeps (t ∷ ts) d = go (eqb t.mine m) refl (eqb t.with' e) refl (change_peer e m f keeps ts d.1)
  where
    go : (b : Bool) → eqb t.mine m ≡ b → (c : Bool) → eqb t.with' e ≡ c → with_peer e (change m f ts) ≡ change m f (with_peer e ts) →
        with_peer e (cond b (f t ∷ ts) (t ∷ change m f ts)) ≡ change m f (cond c (t ∷ with_peer e ts) (with_peer e ts))
    go true s true k rest =
        cond-true (eqb (f t).with' e) _ _ (ap (λ z. eqb z e) (keeps t) ∙ k) ∙ sym (cond-true (eqb t.mine m) (f t ∷ with_peer e ts) (t ∷ change m f (with_peer e ts)) s)
    go true s false k rest =
        cond-false (eqb (f t).with' e) _ _ (ap (λ z. eqb z e) (keeps t) ∙ k) ∙
        sym (change_absent m f (with_peer e ts) (λ u i h. d.0 u (peer_in e ts u i).0 (eqb-true t.mine m s ∙ sym h)))
    go false s true k rest =
        cond-true (eqb t.with' e) _ _ k ∙ (ap (λ z. t ∷ z) rest ∙ sym (cond-false (eqb t.mine m) (f t ∷ with_peer e ts) (t ∷ change m f (with_peer e ts)) s))
    go false s false k rest = cond-false (eqb t.with' e) _ _ k ∙ rest

-- the talk that was found is changed in both
pub agrees_store : (q : Talk → Bool) (f : Session → Session) (u y : Talk) → y.tags.mine ≡ u.tags.mine → ((t : Session) → SameTalk t u → SameTalk (f t) y) →
    (ts : List Session) (us : List (Option Talk)) → Agrees ts us → Distinct SameTag ts → first_that q us ≡ Some u → Agrees (change u.tags.mine f ts) (replaced (same_tag y) y us)
unfolding Agrees first_that change replaced Distinct
agrees_store q f u y same to [] us a d e = absurd (cc (vacant_first q us a))
agrees_store q f u y same to (t ∷ ts) [] a d e = absurd a
agrees_store q f u y same to (t ∷ ts) (None ∷ us) a d e = absurd a
agrees_store q f u y same to (t ∷ ts) (Some v ∷ us) a d e = go (q v) refl e (λ k. agrees_store q f u y same to ts us a.1 d.1 k)
  where
    Goal : Type 0
    Goal = Agrees (cond (eqb t.mine u.tags.mine) (f t ∷ ts) (t ∷ change u.tags.mine f ts)) (cond (eqb v.tags.mine y.tags.mine) (Some y ∷ us) (Some v ∷ replaced (same_tag y) y us))

    hit : v ≡ u → Goal
    hit p =
        subst
        (λ z. Agrees z (cond (eqb v.tags.mine y.tags.mine) (Some y ∷ us) (Some v ∷ replaced (same_tag y) y us)))
        (sym (cond-true (eqb t.mine u.tags.mine) _ _ (eq-eqb t.mine u.tags.mine (sym a.0.mine_so ∙ ap (λ (z : Talk). z.tags.mine) p))))
        (subst
        (λ z. Agrees (f t ∷ ts) z)
        (sym (cond-true (eqb v.tags.mine y.tags.mine) _ _ (eq-eqb v.tags.mine y.tags.mine (ap (λ (z : Talk). z.tags.mine) p ∙ sym same))))
        (to t (subst (SameTalk t) p a.0), a.1))

    miss : (t.mine ≡ u.tags.mine → ⊥) → Agrees (change u.tags.mine f ts) (replaced (same_tag y) y us) → Goal
    miss ne rest =
        subst
        (λ z. Agrees z (cond (eqb v.tags.mine y.tags.mine) (Some y ∷ us) (Some v ∷ replaced (same_tag y) y us)))
        (sym (cond-false (eqb t.mine u.tags.mine) _ _ (ne_eqb t.mine u.tags.mine ne)))
        (subst
        (λ z. Agrees (t ∷ change u.tags.mine f ts) z)
        (sym (cond-false (eqb v.tags.mine y.tags.mine) _ _ (ne_eqb v.tags.mine y.tags.mine (λ h. ne (sym a.0.mine_so ∙ (h ∙ same))))))
        (a.0, rest))

    go : (b : Bool) → q v ≡ b → cond b (Some v) (first_that q us) ≡ Some u → (first_that q us ≡ Some u → Agrees (change u.tags.mine f ts) (replaced (same_tag y) y us)) → Goal
    go true s k rest = let p : v ≡ u = cc in hit p
    go false s k rest =
        let z = found_same q ts us u a.1 k in
        miss (λ h. d.0 z.0 z.1 (h ∙ z.2.mine_so)) (rest k)

pub without_peer : (e m : ℕ) (ts : List Session) → with_peer e (without_talk m ts) ≡ without_talk m (with_peer e ts)
unfolding with_peer without_talk
without_peer e m [] = refl
without_peer e m (t ∷ ts) = go (eqb t.mine m) refl (eqb t.with' e) refl (without_peer e m ts)
  where
    go : (b : Bool) → eqb t.mine m ≡ b → (c : Bool) → eqb t.with' e ≡ c → with_peer e (without_talk m ts) ≡ without_talk m (with_peer e ts) →
        with_peer e (cond b (without_talk m ts) (t ∷ without_talk m ts)) ≡ without_talk m (cond c (t ∷ with_peer e ts) (with_peer e ts))
    go true s true k rest = rest ∙ sym (cond-true (eqb t.mine m) (without_talk m (with_peer e ts)) (t ∷ without_talk m (with_peer e ts)) s)
    go true s false k rest = rest
    go false s true k rest =
        cond-true (eqb t.with' e) _ _ k ∙
        (ap (λ z. t ∷ z) rest ∙ sym (cond-false (eqb t.mine m) (without_talk m (with_peer e ts)) (t ∷ without_talk m (with_peer e ts)) s))
    go false s false k rest = cond-false (eqb t.with' e) _ _ k ∙ rest

pub without_absent : (m : ℕ) (ts : List Session) → ((t : Session) → In t ts → t.mine ≡ m → ⊥) → without_talk m ts ≡ ts
unfolding without_talk
without_absent m [] n = refl
without_absent m (t ∷ ts) n =
    cond-false (eqb t.mine m) _ _ (ne_eqb t.mine m (n t (Memᴰ.head refl))) ∙ ap (λ z. t ∷ z) (without_absent m ts (λ u i. n u (Memᴰ.tail i)))

-- where the third place is empty, the first two hold all
pub agrees_two : (ts : List Session) (us : List (Option Talk)) → length us ≡ 3 → get_or us 2 None ≡ None → Agrees ts us → Agrees ts (take 2 us)
unfolding Agrees Vacant
agrees_two ts [] l e a = absurd (omega arith)
agrees_two ts (x ∷ []) l e a = absurd (omega arith)
agrees_two ts (x ∷ y ∷ []) l e a = absurd (omega arith)
agrees_two ts (x ∷ y ∷ z ∷ w ∷ us) l e a = absurd (omega arith)
agrees_two ts (x ∷ y ∷ Some v ∷ []) l e a = absurd (cc)
agrees_two [] (None ∷ None ∷ None ∷ []) l e a = tt
agrees_two [] (None ∷ Some y ∷ None ∷ []) l e a = absurd a
agrees_two [] (Some x ∷ y ∷ None ∷ []) l e a = absurd a
agrees_two (t ∷ ts) (None ∷ y ∷ None ∷ []) l e a = absurd a
agrees_two (t ∷ []) (Some x ∷ None ∷ None ∷ []) l e a = (a.0, tt)
agrees_two (t ∷ []) (Some x ∷ Some y ∷ None ∷ []) l e a = absurd a.1
agrees_two (t ∷ u ∷ ts) (Some x ∷ None ∷ None ∷ []) l e a = absurd a.1
agrees_two (t ∷ u ∷ []) (Some x ∷ Some y ∷ None ∷ []) l e a = (a.0, (a.1.0, tt))
agrees_two (t ∷ u ∷ v ∷ ts) (Some x ∷ Some y ∷ None ∷ []) l e a = absurd a.1.1

-- the first two of three talks are other ones than the third
apart-three : (t u w : Session) (ts : List Session) (m : ℕ) → w.mine ≡ m → Distinct SameTag (t ∷ u ∷ w ∷ ts) → (t.mine ≡ m → ⊥) × (u.mine ≡ m → ⊥)
unfolding Distinct
apart-three t u w ts m e d =
    (λ h. d.0 w (Memᴰ.tail (Memᴰ.head refl)) (h ∙ sym e), λ h. d.1.0 w (Memᴰ.head refl) (h ∙ sym e))

without_third : (t u w : Session) (m : ℕ) → (t.mine ≡ m → ⊥) → (u.mine ≡ m → ⊥) → w.mine ≡ m → without_talk m (t ∷ u ∷ w ∷ []) ≡ t ∷ u ∷ []
unfolding without_talk
without_third t u w m nt nu e =
    cond-false (eqb t.mine m) _ _ (ne_eqb t.mine m nt) ∙
    ap (λ z. t ∷ z) (cond-false (eqb u.mine m) _ _ (ne_eqb u.mine m nu) ∙ ap (λ z. u ∷ z) (cond-true (eqb w.mine m) _ _ (eq-eqb w.mine m e)))

-- where it is not, they hold all but the talk of the third
pub agrees_drop : (ts : List Session) (us : List (Option Talk)) (v : Talk) → length us ≡ 3 → get_or us 2 None ≡ Some v → Agrees ts us → Distinct SameTag ts →
    Agrees (without_talk v.tags.mine ts) (take 2 us)
unfolding Agrees Vacant
agrees_drop ts [] v l e a d = absurd (omega arith)
agrees_drop ts (x ∷ []) v l e a d = absurd (omega arith)
agrees_drop ts (x ∷ y ∷ []) v l e a d = absurd (omega arith)
agrees_drop ts (x ∷ y ∷ z ∷ w ∷ us) v l e a d = absurd (omega arith)
agrees_drop ts (x ∷ y ∷ None ∷ []) v l e a d = absurd (cc)
agrees_drop [] (None ∷ None ∷ Some z ∷ []) v l e a d = absurd a
agrees_drop [] (None ∷ Some y ∷ Some z ∷ []) v l e a d = absurd a
agrees_drop [] (Some x ∷ y ∷ Some z ∷ []) v l e a d = absurd a
agrees_drop (t ∷ ts) (None ∷ y ∷ Some z ∷ []) v l e a d = absurd a
agrees_drop (t ∷ []) (Some x ∷ None ∷ Some z ∷ []) v l e a d = absurd a.1
agrees_drop (t ∷ []) (Some x ∷ Some y ∷ Some z ∷ []) v l e a d = absurd a.1
agrees_drop (t ∷ u ∷ ts) (Some x ∷ None ∷ Some z ∷ []) v l e a d = absurd a.1
agrees_drop (t ∷ u ∷ []) (Some x ∷ Some y ∷ Some z ∷ []) v l e a d = absurd a.1.1
agrees_drop (t ∷ u ∷ w ∷ ts) (Some x ∷ Some y ∷ Some z ∷ []) v l e a d =
    subst (λ k. Agrees k (Some x ∷ Some y ∷ [])) (sym (left ts a.1.1.1)) (a.0, (a.1.0, tt))
  where
    third : w.mine ≡ v.tags.mine
    third = sym a.1.1.0.mine_so ∙ ap (λ (k : Talk). k.tags.mine) (let p : z ≡ v = cc in p)

    apart : Distinct SameTag (t ∷ u ∷ w ∷ ts) → (t.mine ≡ v.tags.mine → ⊥) × (u.mine ≡ v.tags.mine → ⊥)
    apart k = apart-three t u w ts v.tags.mine third k

    left : (rest : List Session) → Agrees rest [] → without_talk v.tags.mine (t ∷ u ∷ w ∷ rest) ≡ t ∷ u ∷ []
    left [] k = without_third t u w v.tags.mine (apart d).0 (apart d).1 third
    left (k ∷ ks) h = absurd h
