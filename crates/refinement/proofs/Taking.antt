-- A word that is brought to a gate does what its delivery does, after a drop where three talks were had. Assumes nothing.
use Rattle.std.proofs.Common.{◌≡◌, ℕ, zero, suc, ◌<◌, ◌≤◌, Bool, true, false, cond, not, ◌&&◌, ◌||◌, eqb, ltb, leb, List, [], ◌∷◌, ◌++◌, map, get_or, take, is_ok, Some, None, Ok, Err, Option, Result, sym, refl, ap, ◌∙◌, subst, ap₂, le_refl, arith}
use lib.ListN.{length-map}
use Rattle.std.proofs.lemmas.Bool.{cond-true, cond-false, eqb-true, eq-eqb, ne_eqb, and_parts, and_from, or_from, ltb-true, lt-ltb, leb-false, lt-leb, not-true, not_from_false, both_ways}
use Rattle.protocol.specs.declared.refusals.Refusal.{Refusal}
use Rattle.protocol.specs.declared.refusals.Refusal.TheVariants.{WrongGate, ZeroTag, OldHello, UnaskedReply, NoTalk, NoDrawnBytes}
use Rattle.gates.specs.Lists.{In, At}
use Rattle.gates.specs.Talk.{Rules, Inner, is_in, new_talk, came}
use Rattle.gates.specs.Talk.{Talk as Session}
use Rattle.gates.specs.World.{Gate, World, Ev, Brings, changed, is_new, takes, taken, world, waits_for, without_wait, comes_in, change}
use Rattle.gates.specs.World.{Word as Sealed, Hello as HelloWord, Reply as ReplyWord, Packet as PacketWord, Empty as EmptyWord, with_talks as with-sessions}
use Rattle.gates.specs.Promise.{by_of, for_of, GreetsBelow}
use Rattle.gates.specs.Code.{Did, Follows, AllNew}
use Rattle.gates.proofs.Lists.{at_in}
use Rattle.gates.proofs.Talks.{waits_for_lem}
use Rattle.gates.proofs.Invariant.{one-draw}
use Rattle.gates.proofs.Steps.{inv}
use Rattle.gates.proofs.Origins.{proper}
use Rattle.gates.proofs.Nets.{brings-at}
use Rattle.gates.proofs.Can.{changed_here, changed_there}
use Rattle.window.specs.Heard.{look_bits}
use Rattle.window.specs.declared.state.Verdict.{Verdict}
use Rattle.window.specs.declared.state.Verdict.TheVariants.{Fresh, TooOld, Came}
use Rattle.window.proofs.Heard.{look-stands, after-stands}
use Rattle.gateway.specs.declared.state.Talk.{Talk}
use Rattle.gateway.specs.declared.state.Wait.{Wait}
use Rattle.gateway.specs.declared.state.Peer.{Peer}
use Rattle.gateway.specs.declared.state.Gateway.{Gateway}
use Rattle.gateway.specs.declared.state.Word.TheVariants.{Reply}
use Rattle.gateway.specs.declared.state.Taken.{Taken}
use Rattle.gateway.specs.declared.state.Taken.TheVariants.{Answer, Sure, Out, Alive}
use Rattle.gateway.specs.Slots.{first_that, emptied}
use Rattle.gateway.specs.Talks.{fresh_talk, lives, names, heard_one}
use Rattle.gateway.specs.Peers.{has_tag, is_asked, stored}
use Rattle.gateway.specs.Steps.{peer_at, storing, is_peer, answer, leaves, hello_fault, hello_peer, reply_fault, reply_peer, by_verdict, found_in, found_talk, if_owned, packet_talk, heard_after}
use Rattle.gateway.specs.Steps.{taken as answered-as}
use Rattle.refinement.specs.Relation.{rules_of, with_peer, SameTalk, SamePeer, Stands}
use Rattle.refinement.specs.Calls.{drawn_of, sent_for, drew_for, out_for, drops_oldest, drops_for}
use Rattle.refinement.specs.Calls as calls
use Rattle.refinement.proofs.Sessions.{comes_both, found_same}
use Rattle.refinement.proofs.Asking.{any_cleared, waits_without}
use Rattle.refinement.proofs.Standing.{dropped, stands-met, stands-changed}

module _ (k life most : ℕ) (few : k ≤ 32) (owner : ℕ → ℕ) where
  abbrev r : Rules
  r = rules_of life most owner

  -- a call that did nothing
  abbrev quiet : Gateway → Did Gateway
  quiet s = record { after = s; sent = []; put = []; out = []; drew = [] }

  -- what a word of the net is known to be
  record Known (es : List Ev) (x : Sealed) : Type 0 where
    pub here : In x (world r es).net
    pub other : by_of x ≡ for_of x → ⊥
    pub there : by_of x < k

  known : (es : List Ev) (x : Sealed) (i : ℕ) → GreetsBelow k es → At i x (world r es).net → Known es x
  known es x i g p =
      let j = at_in i x (world r es).net p in
      record { here = j; other = (proper r es).not_to_self x j; there = ((proper r es).below k g x j).0 }

  -- a word that is for this gate is by another one that is there
  maker_there : (es : List Ev) (a : ℕ) (x : Sealed) (s : Gateway) (now : ℕ) (g : Gate) → Stands k life most a s now g → Known es x → for_of x ≡ a → (is_peer (by_of x) s && eqb (for_of x) s.own) ≡ true
  maker_there es a x s now g st kn f =
      and_from
      (is_peer (by_of x) s)
      (eqb (for_of x) s.own)
      (and_from
      (ltb (by_of x) s.gates)
      (ltb (by_of x) 32 && not (eqb (by_of x) s.own))
      (lt-ltb (by_of x) s.gates (subst (λ z. by_of x < z) (sym st.gates_so) kn.there))
      (and_from
      (ltb (by_of x) 32)
      (not (eqb (by_of x) s.own))
      (lt-ltb (by_of x) 32 (let b = kn.there in omega arith))
      (not_from_false (eqb (by_of x) s.own) (ne_eqb (by_of x) s.own (λ z. kn.other (z ∙ (st.own_so ∙ sym f)))))))
      (eq-eqb (for_of x) s.own (f ∙ sym st.own_so))

  -- a word that is not taken: a delivery that changes nothing
  refused : (es : List Ev) (a i t : ℕ) (x : Sealed) (s : Gateway) → Stands k life most a s ((world r es).now a) ((world r es).gates a) → At i x (world r es).net → takes r a t x (world r es) ≡ false →
      Follows (Stands k life most a) a (world r es) (world r (Brings a i t ∷ es)) (quiet s)
  unfolding world
  refused es a i t x s st p f =
      subst
      (λ v. Follows (Stands k life most a) a (world r es) v (quiet s))
      (sym (brings-at r a i t x (world r es).net (world r es) p ∙ cond-false (takes r a t x (world r es)) _ (world r es) f))
      (record { stands = st; net_so = refl; put_so = refl; out_so = refl; drawn_so = refl })

  -- the world after the oldest of three talks was dropped, if there were three
  record Roomy (a : ℕ) (o : Option Talk) (w v : World) : Type 0 where
    pub gate_so : v.gates a ≡ with-sessions (dropped o (w.gates a).talks) (w.gates a)
    pub now_so : v.now ≡ w.now
    pub net_so : v.net ≡ w.net
    pub put_so : v.put ≡ w.put
    pub out_so : v.out ≡ w.out
    pub drawn_so : v.drawn ≡ w.drawn

  roomy : (es : List Ev) (a : ℕ) (o : Option Talk) → Roomy a o (world r es) (world r (drops_oldest a o ++ es))
  unfolding world
  roomy es a None = record { gate_so = refl; now_so = refl; net_so = refl; put_so = refl; out_so = refl; drawn_so = refl }
  roomy es a (Some v) =
      record { gate_so = changed_here a _ (world r es).gates; now_so = refl; net_so = refl; put_so = refl; out_so = refl; drawn_so = refl }

  -- a hello has no fault: each test passed
  pub hello-none : (p z o n : Bool) → cond p (cond z (Some ZeroTag) (cond o (Some OldHello) (cond n (Some NoDrawnBytes) None))) (Some WrongGate) ≡ None →
      (p ≡ true) × (z ≡ false) × (o ≡ false) × (n ≡ false)
  hello-none false z o n e = absurd (cc)
  hello-none true true o n e = absurd (cc)
  hello-none true false true n e = absurd (cc)
  hello-none true false false true e = absurd (cc)
  hello-none true false false false e = (refl, refl, refl, refl)

  hello-all : (p z o n : Bool) → p ≡ true → z ≡ false → o ≡ false → n ≡ false → cond p (cond z (Some ZeroTag) (cond o (Some OldHello) (cond n (Some NoDrawnBytes) None))) (Some WrongGate) ≡ None
  hello-all p z o n a b c d = cond-true p _ _ a ∙ (cond-false z _ _ b ∙ (cond-false o _ _ c ∙ cond-false n _ _ d))

  -- the tag that is drawn is new, unless there is none
  drawn-new : (ts : List ℕ) (w : World) → AllNew ts w → eqb (drawn_of ts) 0 ≡ false → is_new (drawn_of ts) w ≡ true
  unfolding AllNew
  drawn-new [] w n e = absurd (both_ways (eqb 0 0) e refl)
  drawn-new (t ∷ ts) w n e = n.0

  new-drawn : (t : ℕ) (w : World) → is_new t w ≡ true → eqb t 0 ≡ false
  new-drawn t w h = not-true (eqb t 0) (and_parts (not (is_in t w.drawn)) (not (eqb t 0)) h).1

  new_as : (t : ℕ) (w v : World) → v.drawn ≡ w.drawn → is_new t v ≡ is_new t w
  new_as t w v e = ap (λ z. not (is_in t z) && not (eqb t 0)) e

  pub hello_so : (es : List Ev) (a by f tag n : ℕ) (ts : List ℕ) (s : Gateway) (i : ℕ) → GreetsBelow k es → Stands k life most a s ((world r es).now a) ((world r es).gates a) →
      At i (HelloWord by f tag n) (world r es).net → AllNew ts (world r es) →
      Follows (Stands k life most a) a (world r es) (world r (calls.hearing (calls.all_known owner) a (HelloWord by f tag n) ts s i ++ es)) (calls.hears (calls.all_known owner) a (HelloWord by f tag n) ts s)
  unfolding world
  hello_so es a by f tag n ts s i below st p new = go (hello_fault by f tag n drawn s) refl
    where
      w : World
      w = world r es

      g : Gate
      g = w.gates a

      drawn : ℕ
      drawn = drawn_of ts

      x : Sealed
      x = HelloWord by f tag n

      kn : Known es x
      kn = known es x i below p

      q : Peer
      q = peer_at by s

      o : Option Talk
      o = get_or q.talks 2 None

      w₁ : World
      w₁ = world r (drops_oldest a o ++ es)

      room : Roomy a o w w₁
      room = roomy es a o

      reply : Taken
      reply = Answer (Reply s.own by drawn tag)

      s' : Gateway
      s' = storing by (hello_peer tag n drawn s.now q) s

      did : Option Refusal → Did Gateway
      did e =
          record {
            after = leaves e s s';
            sent = sent_for (answer e reply);
            put = [];
            out = out_for a x (answer e reply);
            drew = drew_for drawn (answer e reply);
          }

      -- taken, so without a fault
      no_fault : takes r a drawn x w ≡ true → hello_fault by f tag n drawn s ≡ None
      no_fault t =
          let u = and_parts (eqb f a) (ltb (g.last_hello by) n && is_new drawn w) t in
          let v = and_parts (ltb (g.last_hello by) n) (is_new drawn w) u.1 in
          let there = maker_there es a x s (w.now a) g st kn (eqb-true f a u.0) in
          let pe = (and_parts (is_peer by s) (eqb f s.own) there).0 in
          let last : g.last_hello by ≡ q.last_hello = (st.peers_so by pe).hello_so in
          let up : g.last_hello by < n = ltb-true (g.last_hello by) n v.0 in
          hello-all
          (is_peer by s && eqb f s.own)
          (eqb tag 0)
          (leb n q.last_hello)
          (eqb drawn 0)
          there
          (ne_eqb tag 0 (let z = (proper r es).no_zero x kn.here in omega arith))
          (lt-leb n q.last_hello (omega arith))
          (new-drawn drawn w v.1)

      go : (e : Option Refusal) → hello_fault by f tag n drawn s ≡ e → Follows (Stands k life most a) a w (world r ((Brings a i drawn ∷ drops_for a q (answer e reply)) ++ es)) (did e)
      go (Some e) h = refused es a i drawn x s st p (off (takes r a drawn x w) refl)
        where
          off : (b : Bool) → takes r a drawn x w ≡ b → takes r a drawn x w ≡ false
          off true t = absurd (cc (no_fault t))
          off false t = t
      go None h =
          subst
          (λ v. Follows (Stands k life most a) a w v (did None))
          (sym (brings-at r a i drawn x w₁.net w₁ (subst (At i x) (sym room.net_so) p) ∙ cond-true (takes r a drawn x w₁) (taken a drawn x w₁) w₁ taken_so))
          (record {
            stands = subst (Stands k life most a s' (w₁.now a)) (sym (changed_here a _ w₁.gates)) (subst (λ z. Stands k life most a s' (z a) (met z (w₁.gates a))) (sym room.now_so) (subst (λ z. Stands k life most a s' (w.now a) (met w.now z)) (sym room.gate_so) (stands-met k life most a s (w.now a) g by st pe ((inv r es).memory a).apart drawn tag false g.waits (changed by n g.last_hello) (hello_peer tag n drawn s.now q) (ap (λ z. Some (fresh_talk drawn tag z false) ∷ take 2 q.talks) st.now_so) old.six old.placed old.waits_so (λ j ne m t l. refl) (changed_here by n g.last_hello) (λ j ne. changed_there by n g.last_hello j ne))));
            net_so = ap₂ (λ y z. ReplyWord y by drawn tag ∷ z) (sym st.own_so) room.net_so;
            put_so = room.put_so;
            out_so = room.out_so;
            drawn_so = ap (λ z. drawn ∷ z) room.drawn_so;
          })
        where
          tests : ((is_peer by s && eqb f s.own) ≡ true) × (eqb tag 0 ≡ false) × (leb n q.last_hello ≡ false) × (eqb drawn 0 ≡ false)
          tests = hello-none (is_peer by s && eqb f s.own) (eqb tag 0) (leb n q.last_hello) (eqb drawn 0) h

          pe : is_peer by s ≡ true
          pe = (and_parts (is_peer by s) (eqb f s.own) tests.0).0

          old : SamePeer (w.now a) g by q
          old = st.peers_so by pe

          met : (ℕ → ℕ) → Gate → Gate
          met now z = record { talks = new_talk by drawn tag (now a) false ∷ z.talks; waits = z.waits; last_hello = changed by n z.last_hello }

          last_is : (w₁.gates a).last_hello by ≡ q.last_hello
          last_is = ap (λ (z : Gate). z.last_hello by) room.gate_so ∙ old.hello_so

          taken_so : takes r a drawn x w₁ ≡ true
          taken_so =
              and_from
              (eqb f a)
              (ltb ((w₁.gates a).last_hello by) n && is_new drawn w₁)
              (ap (λ z. eqb f z) (sym st.own_so) ∙ (and_parts (is_peer by s) (eqb f s.own) tests.0).1)
              (and_from
              (ltb ((w₁.gates a).last_hello by) n)
              (is_new drawn w₁)
              (lt-ltb ((w₁.gates a).last_hello by) n (let l = last_is in let u : q.last_hello < n = leb-false n q.last_hello tests.2 in omega arith))
              (new_as drawn w w₁ room.drawn_so ∙ drawn-new ts w new tests.3))

  -- a reply has no fault: each test passed
  reply-none : (p z y : Bool) → cond p (cond z (Some ZeroTag) (cond y None (Some UnaskedReply))) (Some WrongGate) ≡ None → (p ≡ true) × (z ≡ false) × (y ≡ true)
  reply-none false z y e = absurd (cc)
  reply-none true true y e = absurd (cc)
  reply-none true false false e = absurd (cc)
  reply-none true false true e = (refl, refl, refl)

  reply-all : (p z y : Bool) → p ≡ true → z ≡ false → y ≡ true → cond p (cond z (Some ZeroTag) (cond y None (Some UnaskedReply))) (Some WrongGate) ≡ None
  reply-all p z y a b c = cond-true p _ _ a ∙ (cond-false z _ _ b ∙ cond-true y _ _ c)

  -- what stands in a place after some were emptied stood there before
  emptied-place : (t : ℕ) (ws : List (Option Wait)) (i : ℕ) (x : Wait) → get_or (map (emptied (has_tag t)) ws) i None ≡ Some x → get_or ws i None ≡ Some x
  emptied-place t [] zero x e = e
  emptied-place t [] (suc i) x e = e
  emptied-place t (None ∷ ws) zero x e = e
  emptied-place t (Some y ∷ ws) zero x e = by (has_tag t y) e
    where
      by : (b : Bool) → cond b None (Some y) ≡ Some x → Some y ≡ Some x
      by true h = absurd (cc)
      by false h = h
  emptied-place t (o ∷ ws) (suc i) x e = emptied-place t ws i x e

  -- no two hellos of a gate that wait have one tag
  one-asked : (es : List Ev) (a e j t n m : ℕ) → waits_for n e t ((world r es).gates a).waits ≡ true → waits_for m j t ((world r es).gates a).waits ≡ true → j ≡ e
  one-asked es a e j t n m p q =
      let v = inv r es in
      let x = waits_for_lem n e t ((world r es).gates a).waits p in
      let y = waits_for_lem m j t ((world r es).gates a).waits q in
      let same : HelloWord a x.0.for' x.0.tag x.0.at ≡ HelloWord a y.0.for' y.0.tag y.0.at = one-draw (world r es).net v.kept.draws t _ _ ((v.memory a).waits_had x.0 x.1).said ((v.memory a).waits_had y.0 y.1).said x.3 y.3 in
      let f : x.0.for' ≡ y.0.for' = cc in
      sym y.2 ∙ (sym f ∙ x.2)

  pub reply_so : (es : List Ev) (a by f tag to : ℕ) (ts : List ℕ) (s : Gateway) (i : ℕ) → GreetsBelow k es → Stands k life most a s ((world r es).now a) ((world r es).gates a) →
      At i (ReplyWord by f tag to) (world r es).net →
      Follows (Stands k life most a) a (world r es) (world r (calls.hearing (calls.all_known owner) a (ReplyWord by f tag to) ts s i ++ es)) (calls.hears (calls.all_known owner) a (ReplyWord by f tag to) ts s)
  unfolding world
  reply_so es a by f tag to ts s i below st p = go (reply_fault by f tag to s) refl
    where
      w : World
      w = world r es

      g : Gate
      g = w.gates a

      drawn : ℕ
      drawn = drawn_of ts

      x : Sealed
      x = ReplyWord by f tag to

      kn : Known es x
      kn = known es x i below p

      q : Peer
      q = peer_at by s

      o : Option Talk
      o = get_or q.talks 2 None

      w₁ : World
      w₁ = world r (drops_oldest a o ++ es)

      room : Roomy a o w w₁
      room = roomy es a o

      s' : Gateway
      s' = storing by (reply_peer tag to s.now q) s

      did : Option Refusal → Did Gateway
      did e = record { after = leaves e s s'; sent = sent_for (answer e Sure); put = []; out = out_for a x (answer e Sure); drew = drew_for drawn (answer e Sure) }

      asked_as : is_peer by s ≡ true → is_asked s.now to q ≡ waits_for (w.now a) by to g.waits
      asked_as pe = ap (λ z. is_asked z to q) st.now_so ∙ sym ((st.peers_so by pe).waits_so (w.now a) to (le_refl (w.now a)))

      no_fault : takes r a drawn x w ≡ true → reply_fault by f tag to s ≡ None
      no_fault t =
          let u = and_parts (eqb f a) (waits_for (w.now a) by to g.waits) t in
          let there = maker_there es a x s (w.now a) g st kn (eqb-true f a u.0) in
          let pe = (and_parts (is_peer by s) (eqb f s.own) there).0 in
          let nz = (proper r es).no_zero x kn.here in
          reply-all
          (is_peer by s && eqb f s.own)
          (eqb tag 0 || eqb to 0)
          (is_asked s.now to q)
          there
          (or_from (eqb tag 0) (eqb to 0) (ne_eqb tag 0 (let z = nz.0 in omega arith)) (ne_eqb to 0 (let z = nz.1 in omega arith)))
          (asked_as pe ∙ u.1)

      go : (e : Option Refusal) → reply_fault by f tag to s ≡ e → Follows (Stands k life most a) a w (world r ((Brings a i drawn ∷ drops_for a q (answer e Sure)) ++ es)) (did e)
      go (Some e) h = refused es a i drawn x s st p (off (takes r a drawn x w) refl)
        where
          off : (b : Bool) → takes r a drawn x w ≡ b → takes r a drawn x w ≡ false
          off true t = absurd (cc (no_fault t))
          off false t = t
      go None h =
          subst
          (λ v. Follows (Stands k life most a) a w v (did None))
          (sym (brings-at r a i drawn x w₁.net w₁ (subst (At i x) (sym room.net_so) p) ∙ cond-true (takes r a drawn x w₁) (taken a drawn x w₁) w₁ taken_so))
          (record {
            stands = subst (Stands k life most a s' (w₁.now a)) (sym (changed_here a _ w₁.gates)) (subst (λ z. Stands k life most a s' (z a) (met z (w₁.gates a))) (sym room.now_so) (subst (λ z. Stands k life most a s' (w.now a) (met w.now z)) (sym room.gate_so) (stands-met k life most a s (w.now a) g by st pe ((inv r es).memory a).apart to tag true (without_wait to g.waits) g.last_hello (reply_peer tag to s.now q) (ap (λ z. Some (fresh_talk to tag z true) ∷ take 2 q.talks) st.now_so) (length-map q.waits (emptied (has_tag to)) ∙ old.six) (λ j y e. old.placed j y (emptied-place to q.waits j y e)) waits_e waits_j old.hello_so (λ j ne. refl))));
            net_so = room.net_so;
            put_so = room.put_so;
            out_so = room.out_so;
            drawn_so = room.drawn_so;
          })
        where
          tests : ((is_peer by s && eqb f s.own) ≡ true) × ((eqb tag 0 || eqb to 0) ≡ false) × (is_asked s.now to q ≡ true)
          tests = reply-none (is_peer by s && eqb f s.own) (eqb tag 0 || eqb to 0) (is_asked s.now to q) h

          pe : is_peer by s ≡ true
          pe = (and_parts (is_peer by s) (eqb f s.own) tests.0).0

          old : SamePeer (w.now a) g by q
          old = st.peers_so by pe

          met : (ℕ → ℕ) → Gate → Gate
          met now z = record { talks = new_talk by to tag (now a) true ∷ z.talks; waits = without_wait to z.waits; last_hello = z.last_hello }

          asked-now : waits_for (w.now a) by to g.waits ≡ true
          asked-now = sym (asked_as pe) ∙ tests.2

          waits_e : (n t : ℕ) → w.now a ≤ n → waits_for n by t (without_wait to g.waits) ≡ is_asked n t (reply_peer tag to s.now q)
          waits_e n t l = waits_without n by t to g.waits ∙ (ap (λ z. not (eqb to t) && z) (old.waits_so n t l) ∙ sym (any_cleared n t to q.waits))

          waits_j : (j : ℕ) → (j ≡ by → ⊥) → (n t : ℕ) → w.now a ≤ n → waits_for n j t (without_wait to g.waits) ≡ waits_for n j t g.waits
          waits_j j ne n t l = waits_without n j t to g.waits ∙ keep (eqb to t) refl (waits_for n j t g.waits) refl
            where
              keep : (b : Bool) → eqb to t ≡ b → (c : Bool) → waits_for n j t g.waits ≡ c → (not b && c) ≡ c
              keep false u c v = refl
              keep true u false v = refl
              keep true u true v = absurd (ne (one-asked es a by j t (w.now a) n (subst (λ z. waits_for (w.now a) by z g.waits ≡ true) (eqb-true to t u) asked-now) v))

          taken_so : takes r a drawn x w₁ ≡ true
          taken_so =
              and_from
              (eqb f a)
              (waits_for (w₁.now a) by to (w₁.gates a).waits)
              (ap (λ z. eqb f z) (sym st.own_so) ∙ (and_parts (is_peer by s) (eqb f s.own) tests.0).1)
              (ap₂ (λ (z : ℕ → ℕ) (y : Gate). waits_for (z a) by to y.waits) room.now_so room.gate_so ∙ asked-now)

  -- a number comes in the talk that was found
  found_ok : (now n : ℕ) (z : Option Talk) → is_ok (found_in now life n z) ≡ true → (u : Talk) × (z ≡ Some u) × (found_in now life n z ≡ Ok u) × (look_bits u.window n ≡ Fresh)
  found_ok now n None h = absurd (cc)
  found_ok now n (Some u) h = by (lives now life u) h
    where
      verdict : (v : Verdict) → is_ok (by_verdict v u) ≡ true → (by_verdict v u ≡ Ok u) × (v ≡ Fresh)
      verdict Fresh e = (refl, refl)
      verdict TooOld e = absurd (cc)
      verdict Came e = absurd (cc)

      by : (b : Bool) → is_ok (cond b (by_verdict (look_bits u.window n) u) (Err NoTalk)) ≡ true →
          (y : Talk) × (Some u ≡ Some y) × (cond b (by_verdict (look_bits u.window n) u) (Err NoTalk) ≡ Ok y) × (look_bits y.window n ≡ Fresh)
      by true e = let z = verdict (look_bits u.window n) e in (u, refl, z.0, z.1)
      by false e = absurd (cc)

  -- a talk was found: each test passed
  pub talk_tests : (p z : Bool) (v : Result Talk Refusal) (u : Talk) → cond p (cond z (Err ZeroTag) v) (Err WrongGate) ≡ Ok u → (p ≡ true) × (z ≡ false) × (v ≡ Ok u)
  talk_tests false z v u e = absurd (cc)
  talk_tests true true v u e = absurd (cc)
  talk_tests true false v u e = (refl, refl, e)

  -- the memory after a number came in the talk that was found
  came-stands : (es : List Ev) (a by m h n : ℕ) (s : Gateway) (u : Talk) → Stands k life most a s ((world r es).now a) ((world r es).gates a) → is_peer by s ≡ true →
      first_that (names h m) (peer_at by s).talks ≡ Some u → look_bits u.window n ≡ Fresh →
      Stands k life most a (storing by (stored (heard_one n u) (peer_at by s)) s) ((world r es).now a) (with-sessions (change h (came n) ((world r es).gates a).talks) ((world r es).gates a))
  came-stands es a by m h n s u st pe found fresh =
      subst
      (λ z. Stands k life most a (storing by (stored (heard_one n u) (peer_at by s)) s) ((world r es).now a) (with-sessions (change z (came n) ((world r es).gates a).talks) ((world r es).gates a)))
      mine-is
      (stands-changed k life most a s ((world r es).now a) ((world r es).gates a) by st pe ((inv r es).memory a).apart (names h m) (came n) u (heard_one n u) found refl (λ t. refl) same)
    where
      named : names h m u ≡ true
      named = (found_same (names h m) (with_peer by ((world r es).gates a).talks) (peer_at by s).talks u (st.peers_so by pe).talks_so found).3

      mine-is : u.tags.mine ≡ h
      mine-is = eqb-true u.tags.mine h (and_parts (eqb u.tags.mine h) (eqb u.tags.theirs m) named).0

      same : (t : Session) → SameTalk t u → SameTalk (came n t) (heard_one n u)
      same t q =
          record {
            mine_so = q.mine_so;
            theirs_so = q.theirs_so;
            born_so = q.born_so;
            sent_so = q.sent_so;
            sure_so = refl;
            window_so = after-stands u.window t.top t.heard n q.window_so (sym (look-stands u.window t.top t.heard n q.window_so) ∙ fresh);
          }

  -- a number comes in the abstract gate exactly if the code finds its talk
  comes_as : (es : List Ev) (a by m h n : ℕ) (s : Gateway) → Stands k life most a s ((world r es).now a) ((world r es).gates a) → is_peer by s ≡ true →
      comes_in r ((world r es).now a) by h m n ((world r es).gates a).talks ≡ is_ok (found_in s.now s.terms.life n (first_that (names h m) (peer_at by s).talks))
  comes_as es a by m h n s st pe =
      comes_both life most owner ((world r es).now a) by h m n ((world r es).gates a).talks (peer_at by s).talks (st.peers_so by pe).talks_so ∙
      ap₂ (λ x y. is_ok (found_in x y n (first_that (names h m) (peer_at by s).talks))) (sym st.now_so) (sym st.life_so)

  -- the talk that the code found, with all that is needed of it
  record Finds' (by m h n : ℕ) (s : Gateway) (u : Talk) : Type 0 where
    pub peer : is_peer by s ≡ true
    pub found : first_that (names h m) (peer_at by s).talks ≡ Some u
    pub fresh : look_bits u.window n ≡ Fresh

  found_talk_lem : (a by f m h n : ℕ) (s : Gateway) (u : Talk) → s.terms.life ≡ life → found_talk by f m h n s ≡ Ok u → Finds' by m h n s u × (eqb f s.own ≡ true)
  found_talk_lem a by f m h n s u life-is e =
      let t = talk_tests (is_peer by s && eqb f s.own) (eqb m 0 || eqb h 0) (found_in s.now s.terms.life n (first_that (names h m) (peer_at by s).talks)) u e in
      let b = and_parts (is_peer by s) (eqb f s.own) t.0 in
      let v : found_in s.now life n (first_that (names h m) (peer_at by s).talks) ≡ Ok u = ap (λ z. found_in s.now z n (first_that (names h m) (peer_at by s).talks)) (sym life-is) ∙ t.2 in
      let o = found_ok s.now n (first_that (names h m) (peer_at by s).talks) (ap is_ok v) in
      let same : o.0 ≡ u = cc (o.2, v) in
      (record { peer = b.0; found = o.1 ∙ ap Some same; fresh = subst (λ z. look_bits z.window n ≡ Fresh) same o.3 }, b.1)

  -- where the abstract gate lets a number come, the code finds its talk
  finds_talk : (es : List Ev) (a by f m h n : ℕ) (x : Sealed) (s : Gateway) → by_of x ≡ by → for_of x ≡ f → Known es x → (0 < m) × (0 < h) × (0 < n) → Stands k life most a s ((world r es).now a) ((world r es).gates a) →
      f ≡ a → comes_in r ((world r es).now a) by h m n ((world r es).gates a).talks ≡ true → (u : Talk) × (found_talk by f m h n s ≡ Ok u)
  finds_talk es a by f m h n x s is-by is-for kn nz st fa c =
      let there : (is_peer by s && eqb f s.own) ≡ true = subst (λ z. (is_peer z s && eqb f s.own) ≡ true) is-by (subst (λ z. (is_peer (by_of x) s && eqb z s.own) ≡ true) is-for (maker_there es a x s ((world r es).now a) ((world r es).gates a) st kn (is-for ∙ fa))) in
      let pe = (and_parts (is_peer by s) (eqb f s.own) there).0 in
      let ok = sym (comes_as es a by m h n s st pe) ∙ c in
      let o = found_ok s.now n (first_that (names h m) (peer_at by s).talks) (ap (λ z. is_ok (found_in s.now z n (first_that (names h m) (peer_at by s).talks))) (sym st.life_so) ∙ ok) in
      let zm : eqb m 0 ≡ false = ne_eqb m 0 (let z = nz.0 in omega arith) in
      let zh : eqb h 0 ≡ false = ne_eqb h 0 (let z = nz.1 in omega arith) in (
        o.0,
        cond-true (is_peer by s && eqb f s.own) _ _ there ∙
            (cond-false (eqb m 0 || eqb h 0) _ _ (or_from (eqb m 0) (eqb h 0) zm zh) ∙
            (ap (λ z. found_in s.now z n (first_that (names h m) (peer_at by s).talks)) st.life_so ∙ o.2)),
      )

  -- and where the code finds it, the abstract gate lets it come
  lets_come : (es : List Ev) (a by f m h n : ℕ) (s : Gateway) (u : Talk) → Stands k life most a s ((world r es).now a) ((world r es).gates a) → found_talk by f m h n s ≡ Ok u →
      (eqb f a ≡ true) × (comes_in r ((world r es).now a) by h m n ((world r es).gates a).talks ≡ true)
  lets_come es a by f m h n s u st e =
      let t = talk_tests (is_peer by s && eqb f s.own) (eqb m 0 || eqb h 0) (found_in s.now s.terms.life n (first_that (names h m) (peer_at by s).talks)) u e in
      let b = and_parts (is_peer by s) (eqb f s.own) t.0 in
      (ap (λ z. eqb f z) (sym st.own_so) ∙ b.1, comes_as es a by m h n s st b.0 ∙ ap is_ok t.2)

  pub empty_so : (es : List Ev) (a by f m h n : ℕ) (ts : List ℕ) (s : Gateway) (i : ℕ) → GreetsBelow k es → Stands k life most a s ((world r es).now a) ((world r es).gates a) →
      At i (EmptyWord by f m h n) (world r es).net →
      Follows (Stands k life most a) a (world r es) (world r (calls.hearing (calls.all_known owner) a (EmptyWord by f m h n) ts s i ++ es)) (calls.hears (calls.all_known owner) a (EmptyWord by f m h n) ts s)
  unfolding world
  empty_so es a by f m h n ts s i below st p = go (found_talk by f m h n s) refl
    where
      w : World
      w = world r es

      drawn : ℕ
      drawn = drawn_of ts

      x : Sealed
      x = EmptyWord by f m h n

      kn : Known es x
      kn = known es x i below p

      did : Result Talk Refusal → Did Gateway
      did v =
          record {
            after = heard_after by n s v;
            sent = sent_for (answered-as Alive v);
            put = [];
            out = out_for a x (answered-as Alive v);
            drew = drew_for drawn (answered-as Alive v);
          }

      go : (v : Result Talk Refusal) → found_talk by f m h n s ≡ v → Follows (Stands k life most a) a w (world r ((Brings a i drawn ∷ drops_for a (peer_at by s) (answered-as Alive v)) ++ es)) (did v)
      go (Err e) q = refused es a i drawn x s st p (off (takes r a drawn x w) refl)
        where
          off : (b : Bool) → takes r a drawn x w ≡ b → takes r a drawn x w ≡ false
          off true t =
              let u = and_parts (eqb f a) (comes_in r (w.now a) by h m n (w.gates a).talks) t in
              let y = finds_talk es a by f m h n x s refl refl kn ((proper r es).no_zero x kn.here) st (eqb-true f a u.0) u.1 in
              absurd (cc (y.1))
          off false t = t
      go (Ok u) q =
          subst
          (λ v. Follows (Stands k life most a) a w v (did (Ok u)))
          (sym (brings-at r a i drawn x w.net w p ∙ cond-true (takes r a drawn x w) (taken a drawn x w) w (and_from (eqb f a) (comes_in r (w.now a) by h m n (w.gates a).talks) ok.0 ok.1)))
          (record {
            stands = subst (Stands k life most a (heard_after by n s (Ok u)) (w.now a)) (sym (changed_here a _ w.gates)) (came-stands es a by m h n s u st fd.peer fd.found fd.fresh);
            net_so = refl;
            put_so = refl;
            out_so = refl;
            drawn_so = refl;
          })
        where
          ok : (eqb f a ≡ true) × (comes_in r (w.now a) by h m n (w.gates a).talks ≡ true)
          ok = lets_come es a by f m h n s u st q

          fd : Finds' by m h n s u
          fd = (found_talk_lem a by f m h n s u st.life_so q).0

  -- the parts of a packet's answer
  pub owned_ok : (b : Bool) (v : Result Talk Refusal) (u : Talk) → if_owned b v ≡ Ok u → (b ≡ true) × (v ≡ Ok u)
  owned_ok true (Ok t) u e = (refl, e)
  owned_ok false (Ok t) u e = absurd (cc)
  owned_ok b (Err f) u e = absurd (cc)

  pub packet_so : (es : List Ev) (a by f m h n : ℕ) (y : Inner) (ts : List ℕ) (s : Gateway) (i : ℕ) → GreetsBelow k es → Stands k life most a s ((world r es).now a) ((world r es).gates a) →
      At i (PacketWord by f m h n y) (world r es).net →
      Follows (Stands k life most a) a (world r es) (world r (calls.hearing (calls.all_known owner) a (PacketWord by f m h n y) ts s i ++ es)) (calls.hears (calls.all_known owner) a (PacketWord by f m h n y) ts s)
  unfolding world
  packet_so es a by f m h n y ts s i below st p = go (packet_talk by f m h n (Some (owner y.from)) (Some (owner y.to)) s) refl
    where
      w : World
      w = world r es

      drawn : ℕ
      drawn = drawn_of ts

      x : Sealed
      x = PacketWord by f m h n y

      kn : Known es x
      kn = known es x i below p

      owned : ℕ → Bool
      owned z = eqb (owner y.from) by && eqb (owner y.to) z

      did : Result Talk Refusal → Did Gateway
      did v =
          record {
            after = heard_after by n s v;
            sent = sent_for (answered-as Out v);
            put = [];
            out = out_for a x (answered-as Out v);
            drew = drew_for drawn (answered-as Out v);
          }

      go : (v : Result Talk Refusal) → packet_talk by f m h n (Some (owner y.from)) (Some (owner y.to)) s ≡ v →
          Follows (Stands k life most a) a w (world r ((Brings a i drawn ∷ drops_for a (peer_at by s) (answered-as Out v)) ++ es)) (did v)
      go (Err e) q = refused es a i drawn x s st p (off (takes r a drawn x w) refl)
        where
          off : (b : Bool) → takes r a drawn x w ≡ b → takes r a drawn x w ≡ false
          off true t =
              let u = and_parts (eqb f a) (comes_in r (w.now a) by h m n (w.gates a).talks && (eqb (owner y.from) by && eqb (owner y.to) a)) t in
              let c = and_parts (comes_in r (w.now a) by h m n (w.gates a).talks) (eqb (owner y.from) by && eqb (owner y.to) a) u.1 in
              let z = finds_talk es a by f m h n x s refl refl kn ((proper r es).no_zero x kn.here) st (eqb-true f a u.0) c.0 in
              let own : owned s.own ≡ true = subst (λ k'. owned k' ≡ true) (sym st.own_so) c.1 in
              let all : packet_talk by f m h n (Some (owner y.from)) (Some (owner y.to)) s ≡ Ok z.0 = ap₂ if_owned own z.1 in
              absurd (cc)
          off false t = t
      go (Ok u) q =
          subst
          (λ v. Follows (Stands k life most a) a w v (did (Ok u)))
          (sym (brings-at r a i drawn x w.net w p ∙ cond-true (takes r a drawn x w) (taken a drawn x w) w taken_so))
          (record {
            stands = subst (Stands k life most a (heard_after by n s (Ok u)) (w.now a)) (sym (changed_here a _ w.gates)) (came-stands es a by m h n s u st fd.peer fd.found fd.fresh);
            net_so = refl;
            put_so = refl;
            out_so = refl;
            drawn_so = refl;
          })
        where
          parts : (owned s.own ≡ true) × (found_talk by f m h n s ≡ Ok u)
          parts = owned_ok (owned s.own) (found_talk by f m h n s) u q

          ok : (eqb f a ≡ true) × (comes_in r (w.now a) by h m n (w.gates a).talks ≡ true)
          ok = lets_come es a by f m h n s u st parts.1

          fd : Finds' by m h n s u
          fd = (found_talk_lem a by f m h n s u st.life_so parts.1).0

          taken_so : takes r a drawn x w ≡ true
          taken_so =
              and_from
              (eqb f a)
              (comes_in r (w.now a) by h m n (w.gates a).talks && owned a)
              ok.0
              (and_from (comes_in r (w.now a) by h m n (w.gates a).talks) (owned a) ok.1 (subst (λ k'. owned k' ≡ true) st.own_so parts.0))
