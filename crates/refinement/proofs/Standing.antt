-- A memory goes on standing for its gate when one peer's part of both changes. Assumes nothing.
use Rattle.std.proofs.Common.{◌≡◌, ℕ, zero, suc, ◌%◌, ◌<◌, ◌≤◌, Bool, true, false, cond, not, ◌&&◌, eqb, ltb, List, [], ◌∷◌, length, get_or, take, set, Some, None, Option, sym, refl, ap, ◌∙◌, subst, ⊎_elim, arith, length-set, length-take, get_or-set_other, get_or-set_same}
use mathlib.Core.List.Memᴰ
use Rattle.std.proofs.lemmas.List.{get_or_past}
use Rattle.std.proofs.lemmas.Bool.{cond-true, cond-false, eq-eqb, ne_eqb, and_parts, ltb-true, cases_eq}
use Rattle.gates.specs.Lists.{In}
use Rattle.gates.specs.Talk.{Talk as Session, new_talk}
use Rattle.gates.specs.World.{Gate, change, without_talk, waits_for}
use Rattle.gates.specs.World.{Wait as Waiter, with_talks as with-sessions}
use Rattle.gates.proofs.Lists.{Distinct}
use Rattle.gates.proofs.Talks.{SameTag, without_talk_lem}
use Rattle.window.proofs.Heard.{empty_stands}
use Rattle.gateway.specs.declared.state.Talk.{Talk}
use Rattle.gateway.specs.declared.state.Wait.{Wait}
use Rattle.gateway.specs.declared.state.Peer.{Peer}
use Rattle.gateway.specs.declared.state.Gateway.{Gateway}
use Rattle.gateway.specs.Slots.{first_that, replaced}
use Rattle.gateway.specs.Talks.{fresh_talk}
use Rattle.gateway.specs.Peers.{is_asked, stored, same_tag}
use Rattle.gateway.specs.Steps.{blank, peer_at, storing, is_peer}
use Rattle.refinement.specs.Relation.{with_peer, SameTalk, Vacant, Agrees, SamePeer, Stands}
use Rattle.refinement.proofs.Sessions.{found_same, peer_in, distinct_peer, change_absent, change_peer, agrees_store, without_peer, without_absent, agrees_two, agrees_drop}

pub peer_bound : (e : ℕ) (s : Gateway) → is_peer e s ≡ true → e < 32
peer_bound e s h =
    ltb-true e 32 (and_parts (ltb e 32) (not (eqb e s.own)) (and_parts (ltb e s.gates) (ltb e 32 && not (eqb e s.own)) h).1).0

-- the abstract talks after the one in the third place was dropped
abbrev pub dropped : Option Talk → List Session → List Session
dropped None ts = ts
dropped (Some v) ts = without_talk v.tags.mine ts

dropped_in : (o : Option Talk) (ts : List Session) (t : Session) → In t (dropped o ts) → In t ts
dropped_in None ts t i = i
dropped_in (Some v) ts t i = without_talk_lem v.tags.mine ts t i

-- the talk in a place stands for one of the abstract gate's
place_same : (ts : List Session) (us : List (Option Talk)) (i : ℕ) (v : Talk) → get_or us i None ≡ Some v → Agrees ts us → (t : Session) × In t ts × SameTalk t v
unfolding Agrees Vacant
place_same ts [] i v e a = absurd (cc (get_or_past {X = Option Talk} [] i None (omega arith)))
place_same [] (None ∷ us) zero v e a = absurd (cc)
place_same [] (None ∷ us) (suc i) v e a = place_same [] us i v e a
place_same [] (Some u ∷ us) i v e a = absurd a
place_same (t ∷ ts) (None ∷ us) i v e a = absurd a
place_same (t ∷ ts) (Some u ∷ us) zero v e a = let p : u ≡ v = cc in (t, Memᴰ.head refl, subst (SameTalk t) p a.0)
place_same (t ∷ ts) (Some u ∷ us) (suc i) v e a = let z = place_same ts us i v e a.1 in (z.0, Memᴰ.tail z.1, z.2)

-- two talks with one own tag are one
same_tag_lem : (ts : List Session) → Distinct SameTag ts → (t u : Session) → In t ts → In u ts → t.mine ≡ u.mine → t ≡ u
same_tag_lem ts d t u i j s = Rattle.gates.proofs.Lists.distinct_same SameTag (λ x y h. sym h) ts d t u i j s

-- with the third place's talk dropped, the first two places hold the talks with gate e
pub room : (ts : List Session) (e : ℕ) (us : List (Option Talk)) → Agrees (with_peer e ts) us → length us ≡ 3 → Distinct SameTag ts →
    Agrees (with_peer e (dropped (get_or us 2 None) ts)) (take 2 us)
room ts e us a l d = go (get_or us 2 None) refl
  where
    go : (o : Option Talk) → get_or us 2 None ≡ o → Agrees (with_peer e (dropped o ts)) (take 2 us)
    go None s = agrees_two (with_peer e ts) us l s a
    go (Some v) s = subst (λ z. Agrees z (take 2 us)) (sym (without_peer e v.tags.mine ts)) (agrees_drop (with_peer e ts) us v l s a (distinct_peer e ts d))

-- and those with other gates are as they were
pub room_others : (ts : List Session) (e j : ℕ) (us : List (Option Talk)) → Agrees (with_peer e ts) us → Distinct SameTag ts → (j ≡ e → ⊥) →
    with_peer j (dropped (get_or us 2 None) ts) ≡ with_peer j ts
room_others ts e j us a d ne = go (get_or us 2 None) refl
  where
    go : (o : Option Talk) → get_or us 2 None ≡ o → with_peer j (dropped o ts) ≡ with_peer j ts
    go None s = refl
    go (Some v) s =
        let z = place_same (with_peer e ts) us 2 v s a in
        let zi = peer_in e ts z.0 z.1 in
        without_peer j v.tags.mine ts ∙
        without_absent
        v.tags.mine
        (with_peer j ts)
        (λ t i h.
        let ti = peer_in j ts t i in
        let p = same_tag_lem ts d t z.0 ti.0 zi.0 (h ∙ z.2.mine_so) in
        ne (sym ti.1 ∙ (ap (λ (q : Session). q.with') p ∙ zi.1)))

first-with : (e : ℕ) (t : Session) (ts : List Session) → t.with' ≡ e → with_peer e (t ∷ ts) ≡ t ∷ with_peer e ts
unfolding with_peer
first-with e t ts s = cond-true (eqb t.with' e) _ _ (eq-eqb t.with' e s)

first_without : (e : ℕ) (t : Session) (ts : List Session) → (t.with' ≡ e → ⊥) → with_peer e (t ∷ ts) ≡ with_peer e ts
unfolding with_peer
first_without e t ts ne = cond-false (eqb t.with' e) _ _ (ne_eqb t.with' e ne)

agrees_first : (t : Session) (u : Talk) (ts : List Session) (us : List (Option Talk)) → SameTalk t u → Agrees ts us → Agrees (t ∷ ts) (Some u ∷ us)
unfolding Agrees
agrees_first t u ts us s a = (s, a)

front_length : {A : Type 0} (x : A) (us : List A) → length us ≡ 3 → length (x ∷ take 2 us) ≡ 3
front_length x us l = ap suc (length-take 2 us ∙ omega arith)

replaced-length : (q : Talk → Bool) (y : Talk) (us : List (Option Talk)) → length (replaced q y us) ≡ length us
unfolding replaced
replaced-length q y [] = refl
replaced-length q y (None ∷ us) = ap suc (replaced-length q y us)
replaced-length q y (Some u ∷ us) = go (q u) (replaced-length q y us)
  where
    go : (b : Bool) → length (replaced q y us) ≡ length us → length (cond b (Some y ∷ us) (Some u ∷ replaced q y us)) ≡ suc (length us)
    go true h = refl
    go false h = ap suc h

changed-known : (P : Session → Type 0) (m : ℕ) (f : Session → Session) (ts : List Session) → ((t : Session) → P t → P (f t)) → ((t : Session) → In t ts → P t) →
    (t : Session) → In t (change m f ts) → P t
unfolding change
changed-known P m f [] to all t i = absurd (Memᴰ.not-nil i)
changed-known P m f (u ∷ us) to all t i = go (eqb u.mine m) i (λ k. changed-known P m f us to (λ v j. all v (Memᴰ.tail j)) t k)
  where
    go : (b : Bool) → In t (cond b (f u ∷ us) (u ∷ change m f us)) → (In t (change m f us) → P t) → P t
    go true j rest = ⊎_elim (λ (e : t ≡ f u). subst P (sym e) (to u (all u (Memᴰ.head refl)))) (λ k. all t (Memᴰ.tail k)) (Memᴰ.cases_cons j)
    go false j rest = ⊎_elim (λ (e : t ≡ u). subst P (sym e) (all u (Memᴰ.head refl))) rest (Memᴰ.cases_cons j)

module _ (k life most a : ℕ) where
  -- One peer's memory is replaced, and the gate changes in what it has of that peer only.
  pub stands_peer : (s : Gateway) (now : ℕ) (g f : Gate) (e : ℕ) (p : Peer) → Stands k life most a s now g → is_peer e s ≡ true → SamePeer now f e p →
      ((j : ℕ) → (j ≡ e → ⊥) → is_peer j s ≡ true → SamePeer now f j (peer_at j s)) → ((t : Session) → In t f.talks → is_peer t.with' s ≡ true) →
      Stands k life most a (storing e p s) now f
  stands_peer s now g f e p st pe here there known' =
      record {
        own_so = st.own_so;
        gates_so = st.gates_so;
        life_so = st.life_so;
        most_so = st.most_so;
        now_so = st.now_so;
        clock = st.clock;
        fell_so = st.fell_so;
        table = length-set s.peers e p ∙ st.table;
        peers_so = λ j pj. ⊎_elim (λ (q : j ≡ e). subst (SamePeer now f j) (sym (at_it j q)) (subst (λ z. SamePeer now f z p) (sym q) here)) (λ ne. subst (SamePeer now f j) (sym (at_other j ne)) (there j ne pj)) (cases_eq j e);
        known = known';
      }
    where
      bound : e < length s.peers
      bound = let l = st.table in let b = peer_bound e s pe in omega arith

      at_it : (j : ℕ) → j ≡ e → get_or (set s.peers e p) j blank ≡ p
      at_it j q = ap (λ z. get_or (set s.peers e p) z blank) q ∙ get_or-set_same s.peers e p blank bound

      at_other : (j : ℕ) → (j ≡ e → ⊥) → get_or (set s.peers e p) j blank ≡ get_or s.peers j blank
      at_other j ne = get_or-set_other s.peers e j p blank ne

  fresh-same : (e m h now : ℕ) (sure : Bool) → SameTalk (new_talk e m h now sure) (fresh_talk m h now sure)
  fresh-same e m h now sure =
      record { mine_so = refl; theirs_so = refl; born_so = refl; sent_so = refl; sure_so = refl; window_so = empty_stands }

  -- A further talk with gate e, in both; the oldest of three goes.
  pub stands-met : (s : Gateway) (now : ℕ) (g : Gate) (e : ℕ) (st : Stands k life most a s now g) (pe : is_peer e s ≡ true) (d : Distinct SameTag g.talks)
      (m h : ℕ) (sure : Bool) (W : List Waiter) (L : ℕ → ℕ) (p : Peer) → p.talks ≡ Some (fresh_talk m h now sure) ∷ take 2 (peer_at e s).talks →
      length p.waits ≡ 6 → ((i : ℕ) (x : Wait) → get_or p.waits i None ≡ Some x → (x.at % 6 ≡ i) × (x.at ≤ now)) →
      ((n t : ℕ) → now ≤ n → waits_for n e t W ≡ is_asked n t p) →
      ((j : ℕ) → (j ≡ e → ⊥) → (n t : ℕ) → now ≤ n → waits_for n j t W ≡ waits_for n j t g.waits) →
      L e ≡ p.last_hello → ((j : ℕ) → (j ≡ e → ⊥) → L j ≡ g.last_hello j) →
      Stands k life most a (storing e p s) now (record { talks = new_talk e m h now sure ∷ dropped (get_or (peer_at e s).talks 2 None) g.talks; waits = W; last_hello = L })
  stands-met s now g e st pe d m h sure W L p talks-is six' placed' waits_e waits_j hello-e hello-j =
      stands_peer
      s
      now
      g
      f
      e
      p
      st
      pe
      (record {
        talks_so = subst (λ z. Agrees (with_peer e f.talks) z) (sym talks-is) (subst (λ z. Agrees z (Some (fresh_talk m h now sure) ∷ take 2 us)) (sym first_e) agree_e);
        three = ap length talks-is ∙ front_length (Some (fresh_talk m h now sure)) us old.three;
        waits_so = waits_e;
        six = six';
        placed = placed';
        hello_so = hello-e;
      })
      (λ j ne pj.
      let q = st.peers_so j pj in
      record {
        talks_so = subst (λ z. Agrees z (peer_at j s).talks) (sym (first_j j ne)) q.talks_so;
        three = q.three;
        waits_so = λ n t l. waits_j j ne n t l ∙ q.waits_so n t l;
        six = q.six;
        placed = q.placed;
        hello_so = hello-j j ne ∙ q.hello_so;
      })
      (λ t i. ⊎_elim (λ (z : t ≡ new). subst (λ y. is_peer y.with' s ≡ true) (sym z) pe) (λ z. st.known t (dropped_in o g.talks t z)) (Memᴰ.cases_cons i))
    where
      us : List (Option Talk)
      us = (peer_at e s).talks

      o : Option Talk
      o = get_or us 2 None

      old : SamePeer now g e (peer_at e s)
      old = st.peers_so e pe

      new : Session
      new = new_talk e m h now sure

      f : Gate
      f = record { talks = new ∷ dropped o g.talks; waits = W; last_hello = L }

      first_e : with_peer e f.talks ≡ new ∷ with_peer e (dropped o g.talks)
      first_e = first-with e new (dropped o g.talks) refl

      first_j : (j : ℕ) → (j ≡ e → ⊥) → with_peer j f.talks ≡ with_peer j g.talks
      first_j j ne = first_without j new (dropped o g.talks) (λ z. ne (sym z)) ∙ room_others g.talks e j us old.talks_so d ne

      agree_e : Agrees (new ∷ with_peer e (dropped o g.talks)) (Some (fresh_talk m h now sure) ∷ take 2 us)
      agree_e = agrees_first new (fresh_talk m h now sure) (with_peer e (dropped o g.talks)) (take 2 us) (fresh-same e m h now sure) (room g.talks e us old.talks_so old.three d)

  -- The talk with gate e that was found changes, in both.
  pub stands-changed : (s : Gateway) (now : ℕ) (g : Gate) (e : ℕ) (st : Stands k life most a s now g) (pe : is_peer e s ≡ true) (d : Distinct SameTag g.talks)
      (q : Talk → Bool) (f : Session → Session) (u y : Talk) → first_that q (peer_at e s).talks ≡ Some u → y.tags.mine ≡ u.tags.mine →
      ((t : Session) → (f t).with' ≡ t.with') → ((t : Session) → SameTalk t u → SameTalk (f t) y) →
      Stands k life most a (storing e (stored y (peer_at e s)) s) now (with-sessions (change u.tags.mine f g.talks) g)
  stands-changed s now g e st pe d q f u y found same keeps to =
      stands_peer
      s
      now
      g
      (with-sessions (change u.tags.mine f g.talks) g)
      e
      (stored y (peer_at e s))
      st
      pe
      (record {
        talks_so = subst (λ z. Agrees z (replaced (same_tag y) y us)) (sym (change_peer e u.tags.mine f keeps g.talks d)) (agrees_store q f u y same to (with_peer e g.talks) us old.talks_so (distinct_peer e g.talks d) found);
        three = replaced-length (same_tag y) y us ∙ old.three;
        waits_so = old.waits_so;
        six = old.six;
        placed = old.placed;
        hello_so = old.hello_so;
      })
      (λ j ne pj.
      let o = st.peers_so j pj in
      record {
        talks_so = subst (λ z. Agrees z (peer_at j s).talks) (sym (others j ne)) o.talks_so;
        three = o.three;
        waits_so = o.waits_so;
        six = o.six;
        placed = o.placed;
        hello_so = o.hello_so;
      })
      (changed-known (λ t. is_peer t.with' s ≡ true) u.tags.mine f g.talks (λ t p. subst (λ z. is_peer z s ≡ true) (sym (keeps t)) p) st.known)
    where
      us : List (Option Talk)
      us = (peer_at e s).talks

      old : SamePeer now g e (peer_at e s)
      old = st.peers_so e pe

      others : (j : ℕ) → (j ≡ e → ⊥) → with_peer j (change u.tags.mine f g.talks) ≡ with_peer j g.talks
      others j ne =
          let z = found_same q (with_peer e g.talks) us u old.talks_so found in
          let zi = peer_in e g.talks z.0 z.1 in
          change_peer j u.tags.mine f keeps g.talks d ∙
          change_absent
          u.tags.mine
          f
          (with_peer j g.talks)
          (λ t i h.
          let ti = peer_in j g.talks t i in
          let p = same_tag_lem g.talks d t z.0 ti.0 zi.0 (h ∙ z.2.mine_so) in
          ne (sym ti.1 ∙ (ap (λ (x : Session). x.with') p ∙ zi.1)))
