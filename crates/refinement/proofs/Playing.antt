-- Many gates and a net: whatever happens is a run of the abstract protocol, and so the promise holds. Assumes nothing.
use Rattle.std.proofs.Common.{◌≡◌, ℕ, zero, suc, ◌-◌, ◌^◌, ◌<◌, ◌≤◌, Bool, true, false, cond, not, ◌&&◌, ◌||◌, eqb, ltb, leb, ◌⊎◌, List, [], ◌∷◌, ◌++◌, length, get_or, set, Some, None, Ok, Err, Option, Result, sym, refl, ap, ◌∙◌, subst, ap₂, inl, inr, ⊎_elim, slice_get, append_assoc, append-nil, arith, length-set, get_or-set_other, get_or-set_same}
use mathlib.Core.List.Memᴰ
use Rattle.std.specs.Prelude.{unwrap_or}
use Rattle.std.proofs.lemmas.Bool.{cond_both, cond-true, eqb-true, eqb-false, ne_eqb, and_parts, and_from, not-true, not_from_false, or_parts, or_from, ltb-true, ltb-false, lt-ltb, cases_eq}
use Rattle.protocol.specs.declared.refusals.Refusal.{Refusal}
use Rattle.gates.specs.Lists.{In, At}
use Rattle.gates.specs.Talk.{Rules, is_in}
use Rattle.gates.specs.World.{Note, World, Ev, Brings, Puts, Drops, is_new, world}
use Rattle.gates.specs.World.{Word as Sealed, Hello as HelloWord, Reply as ReplyWord, Packet as PacketWord, Empty as EmptyWord}
use Rattle.gates.specs.World as worlds
use Rattle.gates.specs.Promise.{note_of, by_of, for_of}
use Rattle.gates.specs.Code.{Did, Follows, AllNew, OfGate, AllOfGate}
use Rattle.gates.proofs.Lists.{in-at}
use Rattle.gates.proofs.Refines.{run_there, run-honest, run-below}
use Rattle.gates.proofs.Whole.{main}
use Rattle.gateway.specs.declared.state.Talk.{Talk}
use Rattle.gateway.specs.declared.state.Peer.{Peer}
use Rattle.gateway.specs.declared.state.Gateway.{Gateway}
use Rattle.gateway.specs.declared.state.Word.{Word}
use Rattle.gateway.specs.declared.state.Word.TheVariants.{Reply}
use Rattle.gateway.specs.declared.state.Taken.{Taken}
use Rattle.gateway.specs.declared.state.Taken.TheVariants.{Answer, Sure, Out, Alive}
use Rattle.gateway.specs.Peers.{is_greeted}
use Rattle.gateway.specs.Steps.{is_peer, peer_at, may_greet, answer, hello_fault, reply_fault, found_talk, packet_talk, took, took_after, put, put_after, greet, greet_after, ticked, restarted}
use Rattle.gateway.specs.Steps.{taken as answered-as}
use Rattle.refinement.specs.declared.state.Parcel.{Parcel}
use Rattle.refinement.specs.declared.state.Letter.{Letter}
use Rattle.refinement.specs.declared.state.Event.{Event}
use Rattle.refinement.specs.declared.state.EventKind.{EventKind}
use Rattle.refinement.specs.declared.state.EventKind.TheVariants.{Tick, Restart, Greet, Put, Bring}
use Rattle.refinement.specs.declared.state.Outcome.{Outcome}
use Rattle.refinement.specs.Relation.{rules_of, Stands}
use Rattle.refinement.specs.Calls.{Call, Ticks, Says, Sends, Falls, offers, Knows, as_code, drawn_of, hearing, does, doing, gone_out, sent_as, put_as, drawn_as, nothing, sent_for, out_for, drew_for, drops_oldest, drops_for}
use Rattle.refinement.specs.Sea.{owner_in, owner_at, inner_of, inner_in, sealed_of, opened, Books, letter_of, silent, brought_out, list_of, no_gate, entered, letter_adds, after_letter, entered_if, happens, plays, tag_of, tags_of, backwards, words_of, puts_of, outs_of, Reached, Kept, Plays}
use Rattle.refinement.proofs.Asked.{ticks_so, falls_so, says_so}
use Rattle.refinement.proofs.Taking.{owned_ok, talk_tests, hello-none}
use Rattle.refinement.proofs.Followed.{hears_known, sends_known}
use Rattle.refinement.proofs.Owning.{table_knows}

backwards-append : {A : Type 0} (f : Letter → List A) (xs ys : List Letter) → backwards f (xs ++ ys) ≡ backwards f ys ++ backwards f xs
unfolding backwards
backwards-append f [] ys = sym (append-nil (backwards f ys))
backwards-append f (x ∷ xs) ys = ap (λ z. z ++ f x) (backwards-append f xs ys) ∙ append_assoc (backwards f ys) (backwards f xs) (f x)

-- a letter of the net is a word of it
letter_in_lem : (l : Letter) (ls : List Letter) → In l ls → In (sealed_of l) (words_of ls)
unfolding backwards
letter_in_lem l [] i = absurd (Memᴰ.not-nil i)
letter_in_lem l (x ∷ xs) i =
    ⊎_elim (λ (e : l ≡ x). Memᴰ.append_right (words_of xs) (Memᴰ.head (ap sealed_of e))) (λ k. Memᴰ.append_left (sealed_of x ∷ []) (letter_in_lem l xs k)) (Memᴰ.cases_cons i)

-- the call's lists are those of the outcome
pub record Matches (d : Did Gateway) (s : Gateway) (o : Outcome) : Type 0 where
  pub after_so : d.after ≡ s
  pub sent_so : d.sent ≡ words_of (list_of o.sent)
  pub put_so : d.put ≡ puts_of (list_of o.put)
  pub out_so : d.out ≡ outs_of (list_of o.out)

module _ (k life most : ℕ) (few : k ≤ 32) (fits : most < 2 ^ 32) (owners : List ℕ) where
  abbrev r : Rules
  r = rules_of life most (owner_in owners)

  -- one gate does what its events do: the books go on being those of a run
  acts : (b : Books) (es vs : List Ev) (g : ℕ) (s : Gateway) (o : Outcome) (d : Did Gateway) → Reached k life most (owner_in owners) b es → g < k → AllOfGate k g vs →
      Follows (Stands k life most g) g (world r es) (world r (vs ++ es)) d → Matches d s o → Reached k life most (owner_in owners) (entered g s o b) (vs ++ es)
  acts b es vs g s o d h there own fl m =
      record {
        all = length-set b.gates g s ∙ h.all;
        stands =
            λ j less.
            ⊎_elim
            (λ (e : j ≡ g).
            subst
            (λ z. Stands k life most j z ((world r (vs ++ es)).now j) ((world r (vs ++ es)).gates j))
            (sym (ap (λ z. get_or (set b.gates g s) z no_gate) e ∙ get_or-set_same b.gates g s no_gate (let a = h.all in omega arith)))
            (subst (λ z. Stands k life most z s ((world r (vs ++ es)).now z) ((world r (vs ++ es)).gates z)) (sym e) (subst (λ z. Stands k life most g z ((world r (vs ++ es)).now g) ((world r (vs ++ es)).gates g)) m.after_so fl.stands)))
            (λ ne.
            let u = run_there r j k g vs es own ne in
            subst
            (λ z. Stands k life most j z ((world r (vs ++ es)).now j) ((world r (vs ++ es)).gates j))
            (sym (get_or-set_other b.gates g j s no_gate ne))
            (subst
            (λ z. Stands k life most j (get_or b.gates j no_gate) ((world r (vs ++ es)).now j) z)
            (sym u.gate_so)
            (subst (λ z. Stands k life most j (get_or b.gates j no_gate) z ((world r es).gates j)) (sym u.now_so) (h.stands j less))))
            (cases_eq j g);
        net_so = fl.net_so ∙ (ap₂ (λ x y. x ++ y) m.sent_so h.net_so ∙ sym (backwards-append _ b.net (list_of o.sent)));
        put_so = fl.put_so ∙ (ap₂ (λ x y. x ++ y) m.put_so h.put_so ∙ sym (backwards-append _ b.put (list_of o.put)));
        out_so = fl.out_so ∙ (ap₂ (λ x y. x ++ y) m.out_so h.out_so ∙ sym (backwards-append _ b.out (list_of o.out)));
        below = run-below k g vs es there own h.below;
        honest = λ a. run-honest k g a vs es own (h.honest a);
      }

  skip_new : (ts rest : List ℕ) (w : World) → AllNew (ts ++ rest) w → AllNew rest w
  unfolding AllNew
  skip_new [] rest w n = n
  skip_new (t ∷ ts) rest w n = skip_new ts rest w n.2

  same_new : (rest : List ℕ) (w v : World) → v.drawn ≡ w.drawn → AllNew rest w → AllNew rest v
  unfolding AllNew
  same_new [] w v e n = tt
  same_new (u ∷ us) w v e n = (ap (λ z. not (is_in u z) && not (eqb u 0)) e ∙ n.0, n.1, same_new us w v e n.2)

  grown_new : (t : ℕ) (rest : List ℕ) (w v : World) → v.drawn ≡ t ∷ w.drawn → is_in t rest ≡ false → AllNew rest w → AllNew rest v
  unfolding AllNew is_in
  grown_new t [] w v e h n = tt
  grown_new t (u ∷ us) w v e h n =
      let q = or_parts (eqb u t) (is_in t us) h in
      let p = and_parts (not (is_in u w.drawn)) (not (eqb u 0)) n.0 in
      let ne : eqb t u ≡ false = ne_eqb t u (λ z. eqb-false u t q.0 (sym z)) in (
        ap (λ z. not (is_in u z) && not (eqb u 0)) e ∙
            and_from (not (eqb t u || is_in u w.drawn)) (not (eqb u 0)) (not_from_false (eqb t u || is_in u w.drawn) (or_from (eqb t u) (is_in u w.drawn) ne (not-true (is_in u w.drawn) p.0))) p.1,
        n.1,
        grown_new t us w v e q.1 n.2,
      )

  new_parts : (t : ℕ) (rest : List ℕ) (w : World) → AllNew (t ∷ rest) w → (is_in t rest ≡ false) × AllNew rest w
  unfolding AllNew
  new_parts t rest w n = (n.1, n.2)

  -- at most the tag that was offered was drawn
  abbrev Drew : (drew offered : List ℕ) → Type 0
  Drew ds ts = (ds ≡ []) ⊎ ((t : ℕ) × (ds ≡ t ∷ []) × (ts ≡ t ∷ []))

  rest-new : (ds ts rest : List ℕ) (w v : World) → v.drawn ≡ ds ++ w.drawn → Drew ds ts → AllNew (ts ++ rest) w → AllNew rest v
  rest-new ds ts rest w v e (inl q) n = same_new rest w v (e ∙ ap (λ z. z ++ w.drawn) q) (skip_new ts rest w n)
  rest-new ds ts rest w v e (inr q) n =
      let h = new_parts q.0 rest w (subst (λ z. AllNew (z ++ rest) w) q.2 n) in
      grown_new q.0 rest w v (e ∙ ap (λ z. z ++ w.drawn) q.1) h.0 h.1

  -- where a list of events led, and that the tags to come are still new
  record Went (b : Books) (es : List Ev) (rest : List ℕ) : Type 0 where
    pub later : List Ev
    pub reached : Reached k life most (owner_in owners) b (later ++ es)
    pub new : AllNew rest (world r (later ++ es))

  stayed : (b : Books) (es : List Ev) (ts rest : List ℕ) → Reached k life most (owner_in owners) b es → AllNew (ts ++ rest) (world r es) → Went b es rest
  stayed b es ts rest h n = record { later = []; reached = h; new = skip_new ts rest (world r es) n }

  -- what gate g does that is there, with memory s' after it and outcome o, the tags offered being ts: its events, what they do, and that the outcome is just that
  abbrev Act : (g : ℕ) → Gateway → Outcome → (ts : List ℕ) → List Ev → Type 0
  Act g s' o ts es =
      (vs : List Ev) × (d : Did Gateway) × AllOfGate k g vs × Follows (Stands k life most g) g (world r es) (world r (vs ++ es)) d × Matches d s' o × Drew d.drew ts

  -- the gate is there and does it, or nothing happens
  there : (g : ℕ) (s' : Gateway) (o : Outcome) (ts : List ℕ) (b : Books) (es : List Ev) (rest : List ℕ) → Reached k life most (owner_in owners) b es → AllNew (ts ++ rest) (world r es) →
      (g < k → Stands k life most g (get_or b.gates g no_gate) ((world r es).now g) ((world r es).gates g) → Act g s' o ts es) →
      Went (cond (ltb g (length b.gates)) (entered g s' o b) b) es rest
  there g s' o ts b es rest h n does' = go (ltb g (length b.gates)) refl
    where
      go : (c : Bool) → ltb g (length b.gates) ≡ c → Went (cond c (entered g s' o b) b) es rest
      go false c = stayed b es ts rest h n
      go true c =
          let less : g < k = let l = ltb-true g (length b.gates) c in let q = h.all in omega arith in
          let z = does' less (h.stands g less) in
          record {
            later = z.0;
            reached = acts b es z.0 g s' o z.1 h less z.2 z.3 z.4;
            new = rest-new z.1.drew ts rest (world r es) (world r (z.0 ++ es)) z.3.drawn_so z.5 n;
          }

  own-cond : (g : ℕ) (c : Bool) (vs : List Ev) → (c ≡ true → AllOfGate k g vs) → AllOfGate k g (cond c vs [])
  unfolding AllOfGate
  own-cond g true vs h = h refl
  own-cond g false vs h = tt

  own-one : (g : ℕ) (v : Ev) → OfGate k g v → AllOfGate k g (v ∷ [])
  unfolding AllOfGate
  own-one g v h = (h, tt)

  own_more : (g : ℕ) (v : Ev) (vs : List Ev) → OfGate k g v → AllOfGate k g vs → AllOfGate k g (v ∷ vs)
  unfolding AllOfGate
  own_more g v vs h hs = (h, hs)

  own-none : (g : ℕ) → AllOfGate k g []
  unfolding AllOfGate
  own-none g = tt

  drops_own : (g : ℕ) (o : Option Talk) → AllOfGate k g (drops_oldest g o)
  drops_own g None = own-none g
  drops_own g (Some t) = own-one g (Drops g t.tags.mine) refl

  hearing_own : (g : ℕ) (p : Peer) (res : Result Taken Refusal) → AllOfGate k g (drops_for g p res)
  hearing_own g p (Ok (Answer w)) = drops_own g (get_or p.talks 2 None)
  hearing_own g p (Ok Sure) = drops_own g (get_or p.talks 2 None)
  hearing_own g p (Ok Out) = own-none g
  hearing_own g p (Ok Alive) = own-none g
  hearing_own g p (Err f) = own-none g

  greeted-below : (e t : ℕ) (s : Gateway) → s.gates ≡ k → may_greet e t s ≡ true → e < k
  greeted-below e t s is h =
      let p = (and_parts (is_peer e s) (not (eqb t 0) && (ltb s.fell s.now && not (is_greeted s.now (peer_at e s)))) h).0 in
      subst (λ z. e < z) is (ltb-true e s.gates (and_parts (ltb e s.gates) (ltb e 32 && not (eqb e s.own)) p).0)

  sent_matches : (p : Option Parcel) (o : Option Word) → sent_as (inner_in p) o ≡ words_of (list_of (letter_of p o))
  unfolding backwards
  sent_matches p None = refl
  sent_matches p (Some w) = refl

  put_matches : (p : Option Parcel) (o : Option Word) → put_as (inner_in p) o ≡ puts_of (list_of (letter_of p o))
  unfolding backwards
  put_matches p None = refl
  put_matches p (Some w) = refl

  quiet_matches : (s : Gateway) → Matches (record { after = s; sent = []; put = []; out = []; drew = [] }) s silent
  unfolding backwards
  quiet_matches s = record { after_so = refl; sent_so = refl; put_so = refl; out_so = refl }

  said : (o : Option Word) (s : Gateway) (t : ℕ) → Matches (record { after = s; sent = sent_as nothing o; put = []; out = []; drew = drawn_as t o }) s (record { sent = letter_of None o; put = None; out = None })
  unfolding backwards
  said o s t = record { after_so = refl; sent_so = sent_matches None o; put_so = refl; out_so = refl }

  putted : (p : Parcel) (o : Option Word) (s : Gateway) →
      Matches (record { after = s; sent = sent_as (inner_of p) o; put = put_as (inner_of p) o; out = []; drew = [] }) s (record { sent = letter_of (Some p) o; put = letter_of (Some p) o; out = None })
  unfolding backwards
  putted p o s = record { after_so = refl; sent_so = sent_matches (Some p) o; put_so = put_matches (Some p) o; out_so = refl }

  greet-drew : (t : ℕ) (o : Option Word) → Drew (drawn_as t o) (t ∷ [])
  greet-drew t None = inl refl
  greet-drew t (Some w) = inr (t, refl, refl)

  -- what is taken of a letter that is for this gate comes out as its note
  brought_matches : (g t : ℕ) (l : Letter) (s : Gateway) (res : Result Taken Refusal) → (res ≡ Ok Out → for_of (sealed_of l) ≡ g) →
      Matches (record { after = s; sent = sent_for res; put = []; out = out_for g (sealed_of l) res; drew = drew_for t res }) s (brought_out l res)
  unfolding backwards
  brought_matches g t l s (Ok (Answer w)) h = record { after_so = refl; sent_so = refl; put_so = refl; out_so = refl }
  brought_matches g t l s (Ok Sure) h = record { after_so = refl; sent_so = refl; put_so = refl; out_so = refl }
  brought_matches g t l s (Ok Out) h = record { after_so = refl; sent_so = refl; put_so = refl; out_so = ap (λ z. note_of z (sealed_of l)) (sym (h refl)) }
  brought_matches g t l s (Ok Alive) h = record { after_so = refl; sent_so = refl; put_so = refl; out_so = refl }
  brought_matches g t l s (Err f) h = record { after_so = refl; sent_so = refl; put_so = refl; out_so = refl }

  brought-drew : (t : ℕ) (ts : List ℕ) (res : Result Taken Refusal) → ((w : Word) → res ≡ Ok (Answer w) → ts ≡ t ∷ []) → Drew (drew_for t res) ts
  brought-drew t ts (Ok (Answer w)) h = inr (t, refl, h w refl)
  brought-drew t ts (Ok Sure) h = inl refl
  brought-drew t ts (Ok Out) h = inl refl
  brought-drew t ts (Ok Alive) h = inl refl
  brought-drew t ts (Err f) h = inl refl

  -- what comes out was for this gate
  out_for_lem : (x : Sealed) (t : ℕ) (s : Gateway) → took (as_code (owner_at owners) x) t s ≡ Ok Out → for_of x ≡ s.own
  out_for_lem (HelloWord a f tag n) t s e = absurd (go (hello_fault a f tag n t s) e)
    where
      go : (o : Option Refusal) → answer o (Answer (Reply s.own a t tag)) ≡ Ok Out → ⊥
      go None h = cc
      go (Some f') h = cc
  out_for_lem (ReplyWord a f tag to) t s e = absurd (go (reply_fault a f tag to s) e)
    where
      go : (o : Option Refusal) → answer o Sure ≡ Ok Out → ⊥
      go None h = cc
      go (Some f') h = cc
  out_for_lem (PacketWord a f m h n y) t s e = go (packet_talk a f m h n (owner_at owners y.from) (owner_at owners y.to) s) refl e
    where
      go : (v : Result Talk Refusal) → packet_talk a f m h n (owner_at owners y.from) (owner_at owners y.to) s ≡ v → answered-as Out v ≡ Ok Out → f ≡ s.own
      go (Err f') q z = absurd (cc)
      go (Ok u) q z =
          let o = (owned_ok k life most few (owner_in owners) _ (found_talk a f m h n s) u q).1 in
          let c = (talk_tests k life most few (owner_in owners) (is_peer a s && eqb f s.own) (eqb m 0 || eqb h 0) _ u o).0 in
          eqb-true f s.own (and_parts (is_peer a s) (eqb f s.own) c).1
  out_for_lem (EmptyWord a f m h n) t s e = absurd (go (found_talk a f m h n s) e)
    where
      go : (v : Result Talk Refusal) → answered-as Alive v ≡ Ok Out → ⊥
      go (Err f') z = cc
      go (Ok u) z = cc

  -- a reply is made only under a tag
  reply-tag : (x : Sealed) (t : ℕ) (s : Gateway) (w : Word) → took (as_code (owner_at owners) x) t s ≡ Ok (Answer w) → 0 < t
  reply-tag (HelloWord a f tag n) t s w e = go (hello_fault a f tag n t s) refl e
    where
      go : (o : Option Refusal) → hello_fault a f tag n t s ≡ o → answer o (Answer (Reply s.own a t tag)) ≡ Ok (Answer w) → 0 < t
      go None q h =
          let z = (hello-none k life most few (owner_in owners) (is_peer a s && eqb f s.own) (eqb tag 0) (leb n (peer_at a s).last_hello) (eqb t 0) q).3 in
          let ne : t ≡ 0 → ⊥ = eqb-false t 0 z in
          omega arith
      go (Some f') q h = absurd (cc)
  reply-tag (ReplyWord a f tag to) t s w e = absurd (go (reply_fault a f tag to s) e)
    where
      go : (o : Option Refusal) → answer o Sure ≡ Ok (Answer w) → ⊥
      go None h = cc
      go (Some f') h = cc
  reply-tag (PacketWord a f m h n y) t s w e = absurd (go (packet_talk a f m h n (owner_at owners y.from) (owner_at owners y.to) s) e)
    where
      go : (v : Result Talk Refusal) → answered-as Out v ≡ Ok (Answer w) → ⊥
      go (Err f') z = cc
      go (Ok u) z = cc
  reply-tag (EmptyWord a f m h n) t s w e = absurd (go (found_talk a f m h n s) e)
    where
      go : (v : Result Talk Refusal) → answered-as Alive v ≡ Ok (Answer w) → ⊥
      go (Err f') z = cc
      go (Ok u) z = cc

  -- the tags that are offered with a word that is brought
  abbrev offered : ℕ → List ℕ
  offered t = cond (ltb 0 t) (t ∷ []) []

  offered_is : (t : ℕ) → drawn_of (cond (ltb 0 t) (t ∷ []) []) ≡ t
  offered_is t = go (ltb 0 t) refl
    where
      go : (c : Bool) → ltb 0 t ≡ c → drawn_of (cond c (t ∷ []) []) ≡ t
      go true e = refl
      go false e = let h = ltb-false 0 t e in omega arith

  front-new : (c : Bool) (t : ℕ) (rest : List ℕ) (w : World) → AllNew (cond c (t ∷ []) [] ++ rest) w → AllNew (cond c (t ∷ []) []) w
  unfolding AllNew is_in
  front-new true t rest w n = (n.0, refl, tt)
  front-new false t rest w n = tt

  -- a letter of the net is brought
  brought : (b : Books) (es : List Ev) (rest : List ℕ) (g t : ℕ) (l : Letter) → Reached k life most (owner_in owners) b es → AllNew (offered t ++ rest) (world r es) → In l b.net →
      g < k → Stands k life most g (get_or b.gates g no_gate) ((world r es).now g) ((world r es).gates g) →
      Act g (took_after (as_code (owner_at owners) (sealed_of l)) t (get_or b.gates g no_gate)) (brought_out l (took (as_code (owner_at owners) (sealed_of l)) t (get_or b.gates g no_gate))) (offered t) es
  brought b es rest g t l h n there' less st = (
    hearing (owner_at owners) g x ts s at.0,
    did t,
    own_more g (Brings g at.0 (drawn_of ts)) (drops_for g (peer_at (by_of x) s) (took (as_code (owner_at owners) x) (drawn_of ts) s)) refl (hearing_own g (peer_at (by_of x) s) (took (as_code (owner_at owners) x) (drawn_of ts) s)),
    subst
        (λ d. Follows (Stands k life most g) g (world r es) (world r (hearing (owner_at owners) g x ts s at.0 ++ es)) d)
        (λ j. did (offered_is t j))
        (hears_known k life most few (owner_at owners) (owner_in owners) (table_knows k owners few) es g x ts s at.0 less h.below st (subst (At at.0 x) (sym h.net_so) at.1) (front-new (ltb 0 t) t rest (world r es) n)),
    brought_matches g t l (took_after (as_code (owner_at owners) x) t s) (took (as_code (owner_at owners) x) t s) (λ e. out_for_lem x t s e ∙ st.own_so),
    brought-drew t ts (took (as_code (owner_at owners) x) t s) (λ w e. cond-true (ltb 0 t) (t ∷ []) [] (lt-ltb 0 t (reply-tag x t s w e))),
  )
    where
      x : Sealed
      x = sealed_of l

      ts : List ℕ
      ts = offered t

      s : Gateway
      s = get_or b.gates g no_gate

      at : (j : ℕ) × At j x (words_of b.net)
      at = in-at x (words_of b.net) (letter_in_lem l b.net there')

      did : ℕ → Did Gateway
      did u =
          record {
            after = took_after (as_code (owner_at owners) x) u s;
            sent = sent_for (took (as_code (owner_at owners) x) u s);
            put = [];
            out = out_for g x (took (as_code (owner_at owners) x) u s);
            drew = drew_for u (took (as_code (owner_at owners) x) u s);
          }

  -- the letter at a place of the net is in it
  in-place : (ls : List Letter) (i : ℕ) (l : Letter) → slice_get ls i ≡ Some l → In l ls
  in-place [] i l e = absurd (cc)
  in-place (x ∷ xs) zero l e = Memᴰ.head (cc)
  in-place (x ∷ xs) (suc i) l e = Memᴰ.tail (in-place xs i l e)

  -- a letter is brought, if it is there
  brings : (b : Books) (es : List Ev) (rest : List ℕ) (g i : ℕ) (tag : Option ℕ) → Reached k life most (owner_in owners) b es → AllNew (tag_of (Bring i tag) ++ rest) (world r es) →
      Went (happens owners (record { gate = g; kind = Bring i tag }) b) es rest
  brings b es rest g i tag h n = go (slice_get b.net i) refl
    where
      t : ℕ
      t = unwrap_or tag 0

      s : Gateway
      s = get_or b.gates g no_gate

      go : (o : Option Letter) → slice_get b.net i ≡ o → Went (cond (ltb g (length b.gates)) (entered_if g (after_letter owners t s o) (letter_adds owners t s o) b) b) es rest
      go None e = cond_both (ltb g (length b.gates)) b b (λ z. Went z es rest) (λ _. stayed b es (offered t) rest h n) (λ _. stayed b es (offered t) rest h n)
      go (Some l) e =
          there g (took_after (opened owners l) t s) (brought_out l (took (opened owners l) t s)) (offered t) b es rest h n
          (λ less st. brought b es rest g t l h n (in-place b.net i l e) less st)

  -- whatever happens
  went : (g : ℕ) (e : EventKind) (b : Books) (es : List Ev) (rest : List ℕ) → Reached k life most (owner_in owners) b es → AllNew (tag_of e ++ rest) (world r es) →
      Went (happens owners (record { gate = g; kind = e }) b) es rest
  went g Tick b es rest h n =
      let s = get_or b.gates g no_gate in
      there
      g
      (ticked s)
      silent
      []
      b
      es
      rest
      h
      n
      (λ less st.
      (doing g Ticks s, does (owner_at owners) g Ticks s, own-cond g (ltb s.now (2 ^ 64 - 1)) (worlds.Tick g ∷ []) (λ e. own-one g (worlds.Tick g) refl), ticks_so k life most fits (owner_in owners) es g s st, quiet_matches (ticked s), inl refl))
  went g Restart b es rest h n =
      let s = get_or b.gates g no_gate in
      there
      g
      (restarted s)
      silent
      []
      b
      es
      rest
      h
      n
      (λ less st.
      (doing g Falls s, does (owner_at owners) g Falls s, own-one g (worlds.Restarts g) refl, falls_so k life most fits (owner_in owners) es g s st, quiet_matches (restarted s), inl refl))
  went g (Greet e t) b es rest h n =
      let s = get_or b.gates g no_gate in
      there
      g
      (greet_after e t s)
      (record { sent = letter_of None (greet e t s); put = None; out = None })
      (t ∷ [])
      b
      es
      rest
      h
      n
      (λ less st. (
        doing g (Says e t) s,
        does (owner_at owners) g (Says e t) s,
        own-cond g (may_greet e t s) (worlds.Greets g e t ∷ []) (λ m. own-one g (worlds.Greets g e t) (refl, greeted-below e t s st.gates_so m)),
        says_so k life most fits (owner_in owners) es g e t s st (front-new true t rest (world r es) n),
        said (greet e t s) (greet_after e t s) t,
        greet-drew t (greet e t s),
      ))
  went g (Put p) b es rest h n =
      let s = get_or b.gates g no_gate in
      let w = gone_out (put (owner_at owners p.from) (owner_at owners p.to) s) in
      there
      g
      (put_after (owner_at owners p.from) (owner_at owners p.to) s)
      (record { sent = letter_of (Some p) w; put = letter_of (Some p) w; out = None })
      []
      b
      es
      rest
      h
      n
      (λ less st. (
        doing g (Sends (inner_of p)) s,
        does (owner_at owners) g (Sends (inner_of p)) s,
        own-one g (Puts g (inner_of p)) refl,
        sends_known k life most fits (owner_at owners) (owner_in owners) (table_knows k owners few) es g (inner_of p) s less st,
        putted p w (put_after (owner_at owners p.from) (owner_at owners p.to) s),
        inl refl,
      ))
  went g (Bring i t) b es rest h n = brings b es rest g i t h n

  all_went : (events : List Event) (b : Books) (es : List Ev) → Reached k life most (owner_in owners) b es → AllNew (tags_of events) (world r es) →
      (later : List Ev) × Reached k life most (owner_in owners) (plays owners events b) (later ++ es)
  unfolding plays tags_of
  all_went [] b es h n = ([], h)
  all_went (e ∷ events) b es h n =
      let first = went e.gate e.kind b es (tags_of events) h n in
      let rest = all_went events (happens owners e b) (first.later ++ es) first.reached first.new in
      (rest.0 ++ first.later, subst (Reached k life most (owner_in owners) (plays owners events (happens owners e b))) (sym (append_assoc rest.0 first.later es)) rest.1)

  -- the promise of the run is the promise of its books
  kept : (b : Books) (es : List Ev) → Reached k life most (owner_in owners) b es → Kept (owner_in owners) b
  kept b es h =
      let w = main r es in
      record {
        was_put = λ o i. let z = w.was_put o (subst (In o) (sym h.out_so) i) in (subst (In _) h.put_so z.0, z.1, z.2);
        once = λ i j o q p l. w.once i j o q (subst (At i o) (sym h.out_so) p) (subst (At j q) (sym h.out_so) l);
        nothing_bare =
            λ a e m n' n x i.
            let z = w.nothing_bare a e m n' n x (subst (In _) (sym h.net_so) i) in
            let own = z.1 (h.honest a) in
            (subst (In _) h.put_so z.0, own.0, own.1);
      }

pub all-plays : (owners : List ℕ) (events : List Event) (b : Books) → Plays owners events b (plays owners events b)
unfolding Plays
all-plays owners events b k life most es few fits h n =
    let z = all_went k life most few fits owners events b es h n in
    (z.0, z.1, main (rules_of life most (owner_in owners)) (z.0 ++ es), kept k life most few fits owners (plays owners events b) (z.0 ++ es) z.1)

-- what is asked of a gate, whatever it is
pub does_so : (k life most : ℕ) (fits : most < 2 ^ 32) (known : ℕ → Option ℕ) (owner : ℕ → ℕ) → Knows k known owner → (es : List Ev) (a : ℕ) (c : Call) (s : Gateway) → a < k →
    Stands k life most a s ((world (rules_of life most owner) es).now a) ((world (rules_of life most owner) es).gates a) → AllNew (offers c) (world (rules_of life most owner) es) →
    Follows (Stands k life most a) a (world (rules_of life most owner) es) (world (rules_of life most owner) (doing a c s ++ es)) (does known a c s)
does_so k life most fits known owner knows es a Ticks s less st new = ticks_so k life most fits owner es a s st
does_so k life most fits known owner knows es a (Says e t) s less st new = says_so k life most fits owner es a e t s st new
does_so k life most fits known owner knows es a (Sends x) s less st new = sends_known k life most fits known owner knows es a x s less st
does_so k life most fits known owner knows es a Falls s less st new = falls_so k life most fits owner es a s st

pub does-own : (k life most : ℕ) → k ≤ 32 → most < 2 ^ 32 → (a : ℕ) (c : Call) (s : Gateway) (now : ℕ) (g : worlds.Gate) → Stands k life most a s now g → AllOfGate k a (doing a c s)
does-own k life most few fits a Ticks s now g st = own-cond k life most few fits [] a (ltb s.now (2 ^ 64 - 1)) (worlds.Tick a ∷ []) (λ e. own-one k life most few fits [] a (worlds.Tick a) refl)
does-own k life most few fits a (Says e t) s now g st =
    own-cond k life most few fits [] a (may_greet e t s) (worlds.Greets a e t ∷ []) (λ m. own-one k life most few fits [] a (worlds.Greets a e t) (refl, greeted-below k life most few fits [] e t s st.gates_so m))
does-own k life most few fits a (Sends x) s now g st = own-one k life most few fits [] a (Puts a x) refl
does-own k life most few fits a Falls s now g st = own-one k life most few fits [] a (worlds.Restarts a) refl

pub hears-own : (k life most : ℕ) → k ≤ 32 → most < 2 ^ 32 → (known : ℕ → Option ℕ) (a : ℕ) (x : Sealed) (ts : List ℕ) (s : Gateway) (i : ℕ) → AllOfGate k a (hearing known a x ts s i)
hears-own k life most few fits known a x ts s i =
    own_more k life most few fits [] a (Brings a i (drawn_of ts)) (drops_for a (peer_at (by_of x) s) (took (as_code known x) (drawn_of ts) s)) refl (hearing_own k life most few fits [] a (peer_at (by_of x) s) (took (as_code known x) (drawn_of ts) s))
