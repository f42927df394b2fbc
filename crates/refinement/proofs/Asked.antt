-- What is asked of a gate (a tick, a restart, a hello, a packet put in) does what its events do. Assumes nothing.
use Rattle.std.proofs.Common.{◌≡◌, ℕ, zero, suc, ◌+◌, ◌-◌, ◌%◌, ◌^◌, ◌<◌, ◌≤◌, Bool, true, false, cond, not, ◌&&◌, ◌||◌, eqb, ltb, leb, List, [], ◌∷◌, ◌++◌, length, get_or, set, replicate, is_some, Some, None, Option, sym, refl, ap, ◌∙◌, subst, ap₂, ⊎_elim, le_refl, arith, length-set, get_or-set_other, get_or-set_same}
use mathlib.Core.List.Memᴰ
use lib.ListN.{length-map}
use Rattle.std.proofs.lemmas.List.{get_or-map}
use Rattle.std.proofs.lemmas.Bool.{cond_both, cond-true, cond-false, eqb-false, eq-eqb, ne_eqb, and_parts, and_from, ltb-true, ltb-false, lt-leb, cases_eq, not-true, not_from_false, both_ways}
use Rattle.protocol.specs.declared.refusals.Refusal.{Refusal}
use Rattle.protocol.specs.declared.refusals.Refusal.TheVariants.{ForeignAddress, NoRoute}
use Rattle.gates.specs.Lists.{In}
use Rattle.gates.specs.Talk.{Rules, Inner}
use Rattle.gates.specs.Talk as abstract
use Rattle.gates.specs.Talk.{Talk as Session}
use Rattle.gates.specs.World.{Gate, World, Ev, Tick, Greets, Puts, Restarts, Found, NoTalk, This, note, changed, is_new, becomes, sends, step, world, waits_for, for_sending}
use Rattle.gates.specs.World.{Hello as HelloWord, Packet as PacketWord, with_talks as with-sessions, change}
use Rattle.gates.specs.Code.{Did, Follows, AllNew}
use Rattle.gates.proofs.Talks.{Finds, for_sending_lem}
use Rattle.gates.proofs.Steps.{inv}
use Rattle.gates.proofs.Can.{changed_here}
use Rattle.gateway.specs.declared.state.Talk.{Talk}
use Rattle.gateway.specs.declared.state.Wait.{Wait}
use Rattle.gateway.specs.declared.state.Peer.{Peer}
use Rattle.gateway.specs.declared.state.Gateway.{Gateway}
use Rattle.gateway.specs.Slots.{first_that, holds}
use Rattle.gateway.specs.declared.state.Word.{Word}
use Rattle.gateway.specs.declared.state.Word.TheVariants.{Hello}
use Rattle.gateway.specs.Talks.{lives, may_send}
use Rattle.gateway.specs.Peers.{forgotten, can_answer, is_asked, is_greeted, asked, stored}
use Rattle.gateway.specs.Talks.{sent_one}
use Rattle.gateway.specs.Steps.{blank, peer_at, storing, is_peer, answer, leaves, put_fault, packet_in, sent_after, put, put_after, may_greet, greet, greet_after, sending}
use Rattle.refinement.specs.Relation.{rules_of, with_peer, SameTalk, Vacant, Agrees, SamePeer, Stands}
use Rattle.refinement.specs.Calls.{Ticks, Says, Sends, Falls, nothing, sent_as, put_as, gone_out, drawn_as, all_known, does, doing}
use Rattle.refinement.proofs.Sessions.{FoundBoth, sending_both, found_same, peer_in}
use Rattle.refinement.proofs.Asking.{any_set}
use Rattle.refinement.proofs.Standing.{peer_bound, stands_peer, stands-changed}

pub empty-place : (n i : ℕ) (x : Wait) → get_or (replicate n None) i None ≡ Some x → ⊥
empty-place zero zero x e = cc
empty-place zero (suc i) x e = cc
empty-place (suc n) zero x e = cc
empty-place (suc n) (suc i) x e = empty-place n i x e

abbrev is_greeted_in : ℕ → List (Option Wait) → Bool
is_greeted_in now ws = is_some (first_that (λ x. eqb x.at now) ws)

-- the parts of the test whether a hello can be made
greet_parts : (e t : ℕ) (s : Gateway) → may_greet e t s ≡ true → (is_peer e s ≡ true) × (is_greeted s.now (peer_at e s) ≡ false)
greet_parts e t s h =
    let p = and_parts (is_peer e s) (not (eqb t 0) && (ltb s.fell s.now && not (is_greeted s.now (peer_at e s)))) h in
    let q = and_parts (not (eqb t 0)) (ltb s.fell s.now && not (is_greeted s.now (peer_at e s))) p.1 in
    let u = and_parts (ltb s.fell s.now) (not (is_greeted s.now (peer_at e s))) q.1 in
    (p.0, not-true (is_greeted s.now (peer_at e s)) u.1)

-- a peer is another gate
peer_other : (e : ℕ) (s : Gateway) → is_peer e s ≡ true → s.own ≡ e → ⊥
peer_other e s h q =
    let p = and_parts (ltb e s.gates) (ltb e 32 && not (eqb e s.own)) h in
    let o = and_parts (ltb e 32) (not (eqb e s.own)) p.1 in
    eqb-false e s.own (not-true (eqb e s.own) o.1) (sym q)

-- what stood in the place of a new hello can no longer be answered
place_free : (now n t : ℕ) (ws : List (Option Wait)) (i : ℕ) → i ≡ now % 6 → now ≤ n → ((j : ℕ) (x : Wait) → get_or ws j None ≡ Some x → (x.at % 6 ≡ j) × (x.at ≤ now)) →
    ((j : ℕ) (x : Wait) → get_or ws j None ≡ Some x → x.at ≡ now → ⊥) → holds (can_answer n t) (get_or ws i None) ≡ false
place_free now n t ws i is l placed fresh = go (get_or ws i None) refl
  where
    go : (o : Option Wait) → get_or ws i None ≡ o → holds (can_answer n t) o ≡ false
    go None s = refl
    go (Some x) s =
        let p : x.at % 6 ≡ i = (placed i x s).0 in
        let q : x.at ≤ now = (placed i x s).1 in
        let u : x.at ≡ now → ⊥ = fresh i x s in
        let late : x.at + 5 < n = omega arith in
        off (eqb x.tag t) (leb n (x.at + 5)) (lt-leb n (x.at + 5) late)
      where
        off : (b c : Bool) → c ≡ false → (b && c) ≡ false
        off true c h = h
        off false c h = refl

-- no hello was said in this tick: none in any place was
not-greeted : (now : ℕ) (ws : List (Option Wait)) → is_greeted_in now ws ≡ false → (j : ℕ) (x : Wait) → get_or ws j None ≡ Some x → x.at ≡ now → ⊥
unfolding first_that
not-greeted now [] h zero x e s = cc
not-greeted now [] h (suc j) x e s = cc
not-greeted now (None ∷ ws) h zero x e s = cc
not-greeted now (None ∷ ws) h (suc j) x e s = not-greeted now ws h j x e s
not-greeted now (Some y ∷ ws) h j x e s = by (eqb y.at now) refl j e h (λ i k l. not-greeted now ws k i x l s)
  where
    by : (b : Bool) → eqb y.at now ≡ b → (i : ℕ) → get_or (Some y ∷ ws) i None ≡ Some x → is_some (cond b (Some y) (first_that (λ z. eqb z.at now) ws)) ≡ false →
        ((i : ℕ) → is_greeted_in now ws ≡ false → get_or ws i None ≡ Some x → ⊥) → ⊥
    by true p i q f rest = cc
    by false p zero q f rest = let u : y ≡ x = cc in eqb-false y.at now p (ap (λ (z : Wait). z.at) u ∙ s)
    by false p (suc i) q f rest = rest i f q

module _ (k life most : ℕ) (fits : most < 2 ^ 32) (owner : ℕ → ℕ) where
  abbrev r : Rules
  r = rules_of life most owner

  -- a later tick changes nothing of what is remembered
  later_peer : (now next : ℕ) (g : Gate) (e : ℕ) (p : Peer) → now ≤ next → SamePeer now g e p → SamePeer next g e p
  later_peer now next g e p l q =
      record {
        talks_so = q.talks_so;
        three = q.three;
        waits_so = λ n t h. q.waits_so n t (omega arith);
        six = q.six;
        placed = λ i x h. ((q.placed i x h).0, let b = (q.placed i x h).1 in omega arith);
        hello_so = q.hello_so;
      }

  pub ticks_so : (es : List Ev) (a : ℕ) (s : Gateway) → Stands k life most a s ((world r es).now a) ((world r es).gates a) →
      Follows (Stands k life most a) a (world r es) (world r (doing a Ticks s ++ es)) (does (all_known owner) a Ticks s)
  unfolding world
  ticks_so es a s st = go (ltb s.now (2 ^ 64 - 1)) refl
    where
      w : World
      w = world r es

      go : (b : Bool) → ltb s.now (2 ^ 64 - 1) ≡ b → Follows (Stands k life most a) a w (world r (cond b (Tick a ∷ []) [] ++ es)) (does (all_known owner) a Ticks s)
      go true h =
          record {
            stands =
                let up : changed a (suc (w.now a)) w.now a ≡ suc (w.now a) = changed_here a (suc (w.now a)) w.now in
                let less : s.now < 2 ^ 64 - 1 = ltb-true s.now (2 ^ 64 - 1) h in
                let now-is : s.now ≡ w.now a = st.now_so in
                record {
                  own_so = st.own_so;
                  gates_so = st.gates_so;
                  life_so = st.life_so;
                  most_so = st.most_so;
                  now_so = omega arith;
                  clock = omega arith;
                  fell_so = let q = st.fell_so in omega arith;
                  table = st.table;
                  peers_so = λ e pe. later_peer (w.now a) (changed a (suc (w.now a)) w.now a) (w.gates a) e (peer_at e s) (omega arith) (st.peers_so e pe);
                  known = st.known;
                };
            net_so = refl;
            put_so = refl;
            out_so = refl;
            drawn_so = refl;
          }
      go false h =
          record {
            stands =
                let most' : 2 ^ 64 - 1 ≤ s.now = ltb-false s.now (2 ^ 64 - 1) h in
                let now-is : s.now ≡ w.now a = st.now_so in
                let c : s.now < 2 ^ 64 = st.clock in
                record {
                  own_so = st.own_so;
                  gates_so = st.gates_so;
                  life_so = st.life_so;
                  most_so = st.most_so;
                  now_so = omega arith;
                  clock = omega arith;
                  fell_so = let q = st.fell_so in omega arith;
                  table = st.table;
                  peers_so = st.peers_so;
                  known = st.known;
                };
            net_so = refl;
            put_so = refl;
            out_so = refl;
            drawn_so = refl;
          }

  pub falls_so : (es : List Ev) (a : ℕ) (s : Gateway) → Stands k life most a s ((world r es).now a) ((world r es).gates a) →
      Follows (Stands k life most a) a (world r es) (world r (doing a Falls s ++ es)) (does (all_known owner) a Falls s)
  unfolding world with_peer Agrees Vacant waits_for first_that
  falls_so es a s st =
      record {
        stands =
            record {
              own_so = st.own_so;
              gates_so = st.gates_so;
              life_so = st.life_so;
              most_so = st.most_so;
              now_so = st.now_so;
              clock = st.clock;
              fell_so = le_refl s.now;
              table = length-map s.peers forgotten ∙ st.table;
              peers_so = λ e pe. subst (SamePeer (w.now a) ((world r (Restarts a ∷ es)).gates a) e) (sym (get_or-map forgotten s.peers e blank blank (bound e pe))) (subst (λ g. SamePeer (w.now a) g e (forgotten (peer_at e s))) (sym here) (peer e pe));
              known = λ t i. absurd (Memᴰ.not-nil (subst (λ (g : Gate). In t g.talks) here i));
            };
        net_so = refl;
        put_so = refl;
        out_so = refl;
        drawn_so = refl;
      }
    where
      w : World
      w = world r es

      g' : Gate
      g' = record { talks = []; waits = []; last_hello = (w.gates a).last_hello }

      here : changed a g' w.gates a ≡ g'
      here = changed_here a g' w.gates

      bound : (e : ℕ) → is_peer e s ≡ true → e < length s.peers
      bound e pe = let l = st.table in let b = peer_bound e s pe in omega arith

      peer : (e : ℕ) → is_peer e s ≡ true → SamePeer (w.now a) g' e (forgotten (peer_at e s))
      peer e pe =
          record {
            talks_so = tt;
            three = refl;
            waits_so = λ n t l. refl;
            six = refl;
            placed = λ i x h. absurd (empty-place 6 i x h);
            hello_so = (st.peers_so e pe).hello_so;
          }

  -- what making a hello did, by its answer and the memory after
  abbrev saying : ℕ → Option Word → Gateway → Did Gateway
  saying t o s = record { after = s; sent = sent_as nothing o; put = []; out = []; drew = drawn_as t o }

  -- a memory in which one more hello to gate e waits
  asked-stands : (s : Gateway) (now : ℕ) (g : Gate) (a e t : ℕ) → Stands k life most a s now g → is_peer e s ≡ true → is_greeted s.now (peer_at e s) ≡ false →
      Stands k life most a (storing e (asked t s.now (peer_at e s)) s) now (record { talks = g.talks; waits = record { for' = e; tag = t; at = now } ∷ g.waits; last_hello = g.last_hello })
  unfolding waits_for
  asked-stands s now g a e t st pe free =
      stands_peer
      k
      life
      most
      a
      s
      now
      g
      (record { talks = g.talks; waits = record { for' = e; tag = t; at = now } ∷ g.waits; last_hello = g.last_hello })
      e
      (asked t s.now p)
      st
      pe
      (record {
        talks_so = old.talks_so;
        three = old.three;
        waits_so = waits_e;
        six = length-set p.waits (s.now % 6) _ ∙ old.six;
        placed = placed_e;
        hello_so = old.hello_so;
      })
      (λ j ne pj.
      let q = st.peers_so j pj in
      record {
        talks_so = q.talks_so;
        three = q.three;
        waits_so = λ n u l. ap (λ b. (b && (eqb t u && leb n (now + 5))) || waits_for n j u g.waits) (ne_eqb e j (λ z. ne (sym z))) ∙ q.waits_so n u l;
        six = q.six;
        placed = q.placed;
        hello_so = q.hello_so;
      })
      st.known
    where
      p : Peer
      p = peer_at e s

      old : SamePeer now g e p
      old = st.peers_so e pe

      y : Wait
      y = record { tag = t; at = s.now }

      in-six : s.now % 6 < length p.waits
      in-six = let l = old.six in omega arith

      free_at : (n u : ℕ) → now ≤ n → holds (can_answer n u) (get_or p.waits (s.now % 6) None) ≡ false
      free_at n u l =
          place_free now n u p.waits (s.now % 6) (ap (λ z. z % 6) st.now_so) l old.placed (λ j x h z. not-greeted s.now p.waits free j x h (z ∙ sym st.now_so))

      waits_e : (n u : ℕ) → now ≤ n → ((eqb e e && (eqb t u && leb n (now + 5))) || waits_for n e u g.waits) ≡ is_asked n u (asked t s.now p)
      waits_e n u l =
          ap (λ b. (b && (eqb t u && leb n (now + 5))) || waits_for n e u g.waits) (eq-eqb e e refl) ∙
          (ap (λ z. (eqb t u && leb n (z + 5)) || waits_for n e u g.waits) (sym st.now_so) ∙
          (ap (λ z. can_answer n u y || z) (old.waits_so n u l) ∙ sym (any_set (can_answer n u) y p.waits (s.now % 6) in-six (free_at n u l))))

      placed_e : (i : ℕ) (x : Wait) → get_or (set p.waits (s.now % 6) (Some y)) i None ≡ Some x → (x.at % 6 ≡ i) × (x.at ≤ now)
      placed_e i x h = ⊎_elim here there (cases_eq i (s.now % 6))
        where
          here : i ≡ s.now % 6 → (x.at % 6 ≡ i) × (x.at ≤ now)
          here z =
              let is : Some y ≡ Some x = sym (get_or-set_same p.waits (s.now % 6) (Some y) None in-six) ∙ (ap (λ q. get_or (set p.waits (s.now % 6) (Some y)) q None) (sym z) ∙ h) in
              let same : y ≡ x = cc in
              let at-is : x.at ≡ s.now = ap (λ (q : Wait). q.at) (sym same) in
              let now-is : s.now ≡ now = st.now_so in
              (ap (λ q. q % 6) at-is ∙ sym z, omega arith)

          there : (i ≡ s.now % 6 → ⊥) → (x.at % 6 ≡ i) × (x.at ≤ now)
          there ne = old.placed i x (sym (get_or-set_other p.waits (s.now % 6) i (Some y) None ne) ∙ h)

  pub says_so : (es : List Ev) (a e t : ℕ) (s : Gateway) → Stands k life most a s ((world r es).now a) ((world r es).gates a) → AllNew (t ∷ []) (world r es) →
      Follows (Stands k life most a) a (world r es) (world r (doing a (Says e t) s ++ es)) (does (all_known owner) a (Says e t) s)
  unfolding world AllNew
  says_so es a e t s st new = go (may_greet e t s) refl
    where
      w : World
      w = world r es

      g : Gate
      g = w.gates a

      f : Gate
      f = record { talks = g.talks; waits = record { for' = e; tag = t; at = w.now a } ∷ g.waits; last_hello = g.last_hello }

      v : World
      v = becomes a f (HelloWord a e t (w.now a) ∷ []) (t ∷ []) w

      go : (b : Bool) → may_greet e t s ≡ b → Follows (Stands k life most a) a w (world r (cond b (Greets a e t ∷ []) [] ++ es)) (saying t (greet e t s) (greet_after e t s))
      go false h =
          subst
          (λ d. Follows (Stands k life most a) a w w d)
          (ap₂ (saying t) (sym (cond-false (may_greet e t s) (Some (Hello s.own e t s.now)) None h)) (sym (cond-false (may_greet e t s) (storing e (asked t s.now (peer_at e s)) s) s h)))
          (record { stands = st; net_so = refl; put_so = refl; out_so = refl; drawn_so = refl })
      go true h =
          subst
          (λ u. Follows (Stands k life most a) a w u (saying t (greet e t s) (greet_after e t s)))
          (sym (cond-true (is_new t w && not (eqb a e)) v w (and_from (is_new t w) (not (eqb a e)) new.0 (not_from_false (eqb a e) (ne_eqb a e other)))))
          (subst
          (λ d. Follows (Stands k life most a) a w v d)
          (ap₂ (saying t) (sym (cond-true (may_greet e t s) (Some (Hello s.own e t s.now)) None h)) (sym (cond-true (may_greet e t s) (storing e (asked t s.now (peer_at e s)) s) s h)))
          (record {
            stands = subst (λ z. Stands k life most a (storing e (asked t s.now (peer_at e s)) s) (w.now a) z) (sym (changed_here a f w.gates)) (asked-stands s (w.now a) g a e t st parts.0 parts.1);
            net_so = ap₂ (λ x y. HelloWord x e t y ∷ w.net) (sym st.own_so) (sym st.now_so);
            put_so = refl;
            out_so = refl;
            drawn_so = refl;
          }))
        where
          parts : (is_peer e s ≡ true) × (is_greeted s.now (peer_at e s) ≡ false)
          parts = greet_parts e t s h

          other : a ≡ e → ⊥
          other z = peer_other e s parts.0 (st.own_so ∙ z)

  -- what putting a packet in did, by the word that it went out in and the memory after
  abbrev putting : Inner → Option Word → Gateway → Did Gateway
  putting x o s = record { after = s; sent = sent_as x o; put = put_as x o; out = []; drew = [] }

  -- the next number of a talk is used, in both
  sent-same : (t : Session) (u : Talk) → u.sent < most → SameTalk t u → SameTalk (abstract.sent_one t) (sent_one u)
  sent-same t u l h =
      record {
        mine_so = h.mine_so;
        theirs_so = h.theirs_so;
        born_so = h.born_so;
        sent_so = let e : u.sent ≡ t.sent = h.sent_so in omega arith;
        sure_so = h.sure_so;
        window_so = h.window_so;
      }

  pub sends_so : (es : List Ev) (a : ℕ) (x : Inner) (s : Gateway) → Stands k life most a s ((world r es).now a) ((world r es).gates a) →
      Follows (Stands k life most a) a (world r es) (world r (doing a (Sends x) s ++ es)) (does (all_known owner) a (Sends x) s)
  unfolding world
  sends_so es a x s st = by_source (eqb source s.own) refl
    where
      w : World
      w = world r es

      g : Gate
      g = w.gates a

      source : ℕ
      source = owner x.from

      goal : ℕ
      goal = owner x.to

      D : Type 0
      D = Follows (Stands k life most a) a w (step r (Puts a x) w) (putting x (gone_out (put (Some source) (Some goal) s)) (put_after (Some source) (Some goal) s))

      -- nothing happens on either side
      still : step r (Puts a x) w ≡ w → gone_out (put (Some source) (Some goal) s) ≡ None → put_after (Some source) (Some goal) s ≡ s → D
      still p q u =
          subst
          (λ z. Follows (Stands k life most a) a w z (putting x (gone_out (put (Some source) (Some goal) s)) (put_after (Some source) (Some goal) s)))
          (sym p)
          (subst (λ d. Follows (Stands k life most a) a w w d) (ap₂ (putting x) (sym q) (sym u)) (record { stands = st; net_so = refl; put_so = refl; out_so = refl; drawn_so = refl }))

      fault : (o : Option Refusal) → put_fault (Some source) (Some goal) s ≡ o → (gone_out (put (Some source) (Some goal) s) ≡ gone_out (answer o (packet_in s.own (Some source) goal (sending goal s)))) × (put_after (Some source) (Some goal) s ≡ leaves o s (sent_after goal s (sending goal s)))
      fault o e = (ap (λ z. gone_out (answer z (packet_in s.own (Some source) goal (sending goal s)))) e, ap (λ z. leaves z s (sent_after goal s (sending goal s))) e)

      -- a talk is used, on both sides
      used : (t : Session) (u : Talk) → is_peer goal s ≡ true → first_that (may_send s.now s.terms.life s.terms.most) (peer_at goal s).talks ≡ Some u → In t (with_peer goal g.talks) → SameTalk t u →
          Follows (Stands k life most a) a w (sends a x (This t) w) (putting x (packet_in s.own (Some source) goal (Some u)) (sent_after goal s (Some u)))
      used t u pg found i same =
          record {
            stands =
                subst
                (λ z. Stands k life most a (storing goal (stored (sent_one u) (peer_at goal s)) s) (w.now a) z)
                (sym (changed_here a _ w.gates))
                (subst
                (λ m. Stands k life most a (storing goal (stored (sent_one u) (peer_at goal s)) s) (w.now a) (with-sessions (change m abstract.sent_one g.talks) g))
                same.mine_so
                (stands-changed k life most a s (w.now a) g goal st pg ((inv r es).memory a).apart (may_send s.now s.terms.life s.terms.most) abstract.sent_one u (sent_one u) found refl (λ z. refl) (λ z h. sent-same z u less h)));
            net_so = λ j. PacketWord (own_is j) (with-is j) (mine-is j) (theirs-is j) (number_is j) x ∷ w.net;
            put_so = λ j. note (own_is j) (with-is j) (mine-is j) (theirs-is j) (number_is j) x ∷ w.put;
            out_so = refl;
            drawn_so = refl;
          }
        where
          may : may_send s.now s.terms.life s.terms.most u ≡ true
          may = (found_same (may_send s.now s.terms.life s.terms.most) (with_peer goal g.talks) (peer_at goal s).talks u (st.peers_so goal pg).talks_so found).3

          less : u.sent < most
          less =
              let p = and_parts u.sure (lives s.now s.terms.life u && ltb u.sent s.terms.most) may in
              let q = and_parts (lives s.now s.terms.life u) (ltb u.sent s.terms.most) p.1 in
              let b : u.sent < s.terms.most = ltb-true u.sent s.terms.most q.1 in
              let e : s.terms.most ≡ most = st.most_so in
              omega arith

          own_is : a ≡ s.own
          own_is = sym st.own_so

          with-is : t.with' ≡ goal
          with-is = (peer_in goal g.talks t i).1

          mine-is : t.mine ≡ u.tags.mine
          mine-is = sym same.mine_so

          theirs-is : t.theirs ≡ u.tags.theirs
          theirs-is = sym same.theirs_so

          number_is : suc t.sent ≡ (sent_one u).sent
          number_is = sym (sent-same t u less same).sent_so

      by_found : (f : Found) (o : Option Talk) → is_peer goal s ≡ true → first_that (may_send s.now s.terms.life s.terms.most) (peer_at goal s).talks ≡ o → FoundBoth (with_peer goal g.talks) f o →
          Follows (Stands k life most a) a w (sends a x f w) (putting x (packet_in s.own (Some source) goal o) (sent_after goal s o))
      by_found NoTalk None pg found both = record { stands = st; net_so = refl; put_so = refl; out_so = refl; drawn_so = refl }
      by_found NoTalk (Some u) pg found both = absurd both
      by_found (This t) None pg found both = absurd both
      by_found (This t) (Some u) pg found both = used t u pg found both.0 both.1

      by_goal : (b : Bool) → is_peer goal s ≡ b → eqb source s.own ≡ true → D
      by_goal false pg h =
          let fl = fault (Some NoRoute) (cond-true (eqb source s.own) _ _ h ∙ cond-false (is_peer goal s) _ _ pg) in
          still (cond_both (eqb source a && not (eqb goal a)) (sends a x (for_sending r (w.now a) goal g.talks) w) w (λ z. z ≡ w) (λ e. none (for_sending r (w.now a) goal g.talks) (for_sending_lem r (w.now a) goal g.talks)) (λ e. refl)) fl.0 fl.1
        where
          none : (f : Found) → Finds (λ t. (t.with' ≡ goal) × (abstract.may_send r (w.now a) t ≡ true)) g.talks f → sends a x f w ≡ w
          none NoTalk q = refl
          none (This t) q = absurd (both_ways (is_peer goal s) pg (subst (λ z. is_peer z s ≡ true) q.1.0 (st.known t q.0)))
      by_goal true pg h =
          let fl = fault None (cond-true (eqb source s.own) _ _ h ∙ cond-true (is_peer goal s) _ _ pg) in
          subst
          (λ z. Follows (Stands k life most a) a w z (putting x (gone_out (put (Some source) (Some goal) s)) (put_after (Some source) (Some goal) s)))
          (sym (cond-true (eqb source a && not (eqb goal a)) (sends a x (for_sending r (w.now a) goal g.talks) w) w (and_from (eqb source a) (not (eqb goal a)) (ap (λ z. eqb source z) (sym st.own_so) ∙ h) (not_from_false (eqb goal a) (ne_eqb goal a (λ z. peer_other goal s pg (st.own_so ∙ sym z)))))))
          (subst
          (λ d. Follows (Stands k life most a) a w (sends a x (for_sending r (w.now a) goal g.talks) w) d)
          (ap₂ (putting x) (sym fl.0) (sym fl.1))
          (by_found
          (for_sending r (w.now a) goal g.talks)
          (sending goal s)
          pg
          refl
          (subst
          (λ q. FoundBoth (with_peer goal g.talks) (for_sending r (w.now a) goal g.talks) (first_that q (peer_at goal s).talks))
          (λ j. may_send (sym st.now_so j) (sym st.life_so j) (sym st.most_so j))
          (sending_both life most owner (w.now a) goal g.talks (peer_at goal s).talks (st.peers_so goal pg).talks_so))))

      by_source : (b : Bool) → eqb source s.own ≡ b → D
      by_source false h =
          let fl = fault (Some ForeignAddress) (cond-false (eqb source s.own) _ _ h) in
          still (cond-false (eqb source a && not (eqb goal a)) _ w (ap (λ b. b && not (eqb goal a)) (ap (λ z. eqb source z) (sym st.own_so) ∙ h))) fl.0 fl.1
      by_source true h = by_goal (is_peer goal s) refl h
