-- It always can, over the code: a hello of a new tick and its reply give two gates a talk, and what is then put in comes out. Assumes nothing.
use Rattle.std.proofs.Common.{◌≡◌, ℕ, zero, suc, ◌+◌, ◌-◌, ◌%◌, ◌^◌, ◌<◌, ◌≤◌, Bool, true, false, cond, not, ◌&&◌, ◌||◌, eqb, ltb, leb, List, [], ◌∷◌, ◌++◌, length, get_or, slice_get, take, set, is_some, Some, None, Ok, Option, sym, refl, ap, ◌∙◌, subst, ap₂, append-nil, le_of_suc-le-suc, arith, length-append, length-set, get_or-set_other, get_or-set_same}
use Rattle.std.proofs.lemmas.List.{get_or_push}
use Rattle.std.proofs.lemmas.Option.{slice_get-get_or}
use Rattle.std.proofs.lemmas.Bool.{cond-true, cond-false, eq-eqb, ne_eqb, and_from, or_from, lt-ltb, le-leb, lt-leb, not_from_false}
use Rattle.gates.specs.World.{world}
use Rattle.gates.proofs.Steps.{inv}
use Rattle.gateway.specs.declared.state.Wait.{Wait}
use Rattle.gateway.specs.declared.state.Peer.{Peer}
use Rattle.gateway.specs.declared.state.Gateway.{Gateway}
use Rattle.gateway.specs.declared.state.Word.TheVariants.{Hello, Reply, Packet}
use Rattle.gateway.specs.declared.state.Taken.TheVariants.{Answer, Sure, Out}
use Rattle.gateway.specs.Slots.{first_that}
use Rattle.gateway.specs.Talks.{fresh_talk, lives, may_send, names}
use Rattle.gateway.specs.Peers.{can_answer, is_greeted, asked}
use Rattle.gateway.specs.Steps.{in_talk, between, blank, peer_at, storing, is_peer, answer, leaves, hello_fault, hello_peer, reply_fault, reply_peer, found_in, found_talk, if_owned, took, took_after, put_fault, packet_in, sending, put, put_after, may_greet, greet, greet_after, ticked}
use Rattle.gateway.specs.Steps.{taken as answered-as}
use Rattle.refinement.specs.declared.state.Letter.{Letter}
use Rattle.refinement.specs.declared.state.EventKind.{EventKind}
use Rattle.refinement.specs.declared.state.EventKind.TheVariants.{Tick, Greet, Put, Bring}
use Rattle.refinement.specs.declared.state.Outcome.{Outcome}
use Rattle.refinement.specs.Relation.{rules_of, SamePeer, Stands}
use Rattle.refinement.specs.Calls.{gone_out}
use Rattle.refinement.specs.Sea.{owner_in, owner_at, opened, Books, letter_of, silent, brought_out, list_of, no_gate, entered, entered_if, after_letter, letter_adds, after_of, outcome_of, at_gate, happens, plays, CanOpen}
use Rattle.refinement.proofs.Owning.{known_at}
use Rattle.refinement.proofs.Standing.{peer_bound}

-- no hello was said in a tick that is above all of theirs
none-greeted : (now : ℕ) (ws : List (Option Wait)) → ((i : ℕ) (x : Wait) → get_or ws i None ≡ Some x → x.at < now) → is_some (first_that (λ x. eqb x.at now) ws) ≡ false
unfolding first_that
none-greeted now [] h = refl
none-greeted now (None ∷ ws) h = none-greeted now ws (λ i x e. h (suc i) x e)
none-greeted now (Some y ∷ ws) h =
    ap is_some (cond-false (eqb y.at now) (Some y) (first_that (λ x. eqb x.at now) ws) (ne_eqb y.at now (let l = h 0 y refl in λ e. above y.at now l e))) ∙
    none-greeted now ws (λ i x e. h (suc i) x e)
  where
    above : (m n : ℕ) → m < n → m ≡ n → ⊥
    above m n l e = omega arith

-- what was just put in a place passes
set_passes : {A : Type 0} (p : A → Bool) (y : A) (xs : List (Option A)) (i : ℕ) → i < length xs → p y ≡ true → is_some (first_that p (set xs i (Some y))) ≡ true
unfolding first_that
set_passes p y [] i l h = absurd (omega arith)
set_passes p y (x ∷ xs) zero l h = ap is_some (cond-true (p y) (Some y) (first_that p xs) h)
set_passes p y (None ∷ xs) (suc i) l h = set_passes p y xs i (le_of_suc-le-suc l) h
set_passes p y (Some x ∷ xs) (suc i) l h = go (p x) (set_passes p y xs i (le_of_suc-le-suc l) h)
  where
    go : (b : Bool) → is_some (first_that p (set xs i (Some y))) ≡ true → is_some (cond b (Some x) (first_that p (set xs i (Some y)))) ≡ true
    go true k = refl
    go false k = k

first_passes : {A : Type 0} (p : A → Bool) (x : A) (xs : List (Option A)) → p x ≡ true → first_that p (Some x ∷ xs) ≡ Some x
unfolding first_that
first_passes p x xs h = cond-true (p x) (Some x) (first_that p xs) h

stored_peer : (e : ℕ) (p : Peer) (s : Gateway) → length s.peers ≡ 32 → e < 32 → peer_at e (storing e p s) ≡ p
stored_peer e p s l b = get_or-set_same s.peers e p blank (omega arith)

self : (a : ℕ) → eqb a a ≡ true
self a = eq-eqb a a refl

nonzero : (t : ℕ) → 0 < t → eqb t 0 ≡ false
nonzero t h = ne_eqb t 0 (λ e. omega arith)

-- Two gates that know each other, of which the first can say a new hello that the second has to take, and two tags.
record Ready (s_a s_e : Gateway) (t y : ℕ) : Type 0 where
  pub pe : is_peer s_e.own s_a ≡ true
  pub pa : is_peer s_a.own s_e ≡ true
  pub t_a : length s_a.peers ≡ 32
  pub t_e : length s_e.peers ≡ 32
  pub six : length (peer_at s_e.own s_a).waits ≡ 6
  pub old : (i : ℕ) (x : Wait) → get_or (peer_at s_e.own s_a).waits i None ≡ Some x → x.at ≤ s_a.now
  pub fell : s_a.fell ≤ s_a.now
  pub clock : s_a.now < 2 ^ 64 - 1
  pub late : (peer_at s_a.own s_e).last_hello ≤ s_a.now
  pub nt : 0 < t
  pub ny : 0 < y
  pub most : 0 < s_a.terms.most

module _ (s_a s_e : Gateway) (t y : ℕ) (r : Ready s_a s_e t y) where
  open r use {pe, pa, t_a, t_e, six, old, fell, clock, late, nt, ny, most}

  abbrev A : ℕ
  A = s_a.own

  abbrev E : ℕ
  E = s_e.own

  abbrev s₁ : Gateway
  s₁ = ticked s_a

  abbrev N : ℕ
  N = s₁.now

  N-is : N ≡ s_a.now + 1
  N-is = omega arith

  abbrev p₁ : Peer
  p₁ = peer_at E s₁

  greets : may_greet E t s₁ ≡ true
  greets =
      and_from
      (is_peer E s₁)
      (not (eqb t 0) && (ltb s₁.fell N && not (is_greeted N p₁)))
      pe
      (and_from
      (not (eqb t 0))
      (ltb s₁.fell N && not (is_greeted N p₁))
      (not_from_false (eqb t 0) (nonzero t nt))
      (and_from
      (ltb s₁.fell N)
      (not (is_greeted N p₁))
      (lt-ltb s₁.fell N (let q = N-is in omega arith))
      (not_from_false (is_greeted N p₁) (none-greeted N p₁.waits (λ i x h. let l = old i x h in let q = N-is in omega arith)))))

  greet-is : greet E t s₁ ≡ Some (Hello A E t N)
  greet-is = cond-true (may_greet E t s₁) _ _ greets

  abbrev s₂ : Gateway
  s₂ = storing E (asked t N p₁) s₁

  greet-after : greet_after E t s₁ ≡ s₂
  greet-after = cond-true (may_greet E t s₁) _ _ greets

  hello-ok : hello_fault A E t N y s_e ≡ None
  hello-ok =
      cond-true (is_peer A s_e && eqb E s_e.own) _ _ (and_from (is_peer A s_e) (eqb E s_e.own) pa (self E)) ∙
      (cond-false (eqb t 0) _ _ (nonzero t nt) ∙
      (cond-false (leb N (peer_at A s_e).last_hello) _ _ (lt-leb N (peer_at A s_e).last_hello (let q = N-is in let l = late in omega arith)) ∙ cond-false (eqb y 0) _ _ (nonzero y ny)))

  abbrev e₁ : Gateway
  e₁ = storing A (hello_peer t N y s_e.now (peer_at A s_e)) s_e

  hello-took : took (Hello A E t N) y s_e ≡ Ok (Answer (Reply E A y t))
  hello-took = ap (λ o. answer o (Answer (Reply E A y t))) hello-ok

  hello-after : took_after (Hello A E t N) y s_e ≡ e₁
  hello-after = ap (λ o. leaves o s_e e₁) hello-ok

  in-A : E < 32
  in-A = peer_bound E s_a pe

  in-E : A < 32
  in-E = peer_bound A s_e pa

  peer₂ : peer_at E s₂ ≡ asked t N p₁
  peer₂ = stored_peer E (asked t N p₁) s₁ t_a in-A

  asked-now : is_some (first_that (can_answer N t) (peer_at E s₂).waits) ≡ true
  asked-now =
      ap (λ (q : Peer). is_some (first_that (can_answer N t) q.waits)) peer₂ ∙
      set_passes (can_answer N t) (record { tag = t; at = N }) p₁.waits (N % 6) (let s = six in omega arith) (and_from (eqb t t) (leb N (N + 5)) (self t) (le-leb N (N + 5) (omega arith)))

  reply-ok : reply_fault E A y t s₂ ≡ None
  reply-ok =
      cond-true (is_peer E s₂ && eqb A s₂.own) _ _ (and_from (is_peer E s₂) (eqb A s₂.own) pe (self A)) ∙
      (cond-false (eqb y 0 || eqb t 0) _ _ (or_from (eqb y 0) (eqb t 0) (nonzero y ny) (nonzero t nt)) ∙ cond-true (is_some (first_that (can_answer N t) (peer_at E s₂).waits)) _ _ asked-now)

  abbrev s₃ : Gateway
  s₃ = storing E (reply_peer y t N (peer_at E s₂)) s₂

  reply-took : took (Reply E A y t) 0 s₂ ≡ Ok Sure
  reply-took = ap (λ o. answer o Sure) reply-ok

  reply-after : took_after (Reply E A y t) 0 s₂ ≡ s₃
  reply-after = ap (λ o. leaves o s₂ s₃) reply-ok

  peer₃ : peer_at E s₃ ≡ reply_peer y t N (peer_at E s₂)
  peer₃ = stored_peer E (reply_peer y t N (peer_at E s₂)) s₂ (length-set s_a.peers E (asked t N p₁) ∙ t_a) in-A

  sends_by : sending E s₃ ≡ Some (fresh_talk t y N true)
  sends_by =
      ap (λ (q : Peer). first_that (may_send N s_a.terms.life s_a.terms.most) q.talks) peer₃ ∙
      first_passes (may_send N s_a.terms.life s_a.terms.most) (fresh_talk t y N true) (take 2 (peer_at E s₂).talks) (and_from (leb N (N + s_a.terms.life)) (ltb 0 s_a.terms.most) (le-leb N (N + s_a.terms.life) (omega arith)) (lt-ltb 0 s_a.terms.most most))

  put-ok : put_fault (Some A) (Some E) s₃ ≡ None
  put-ok = cond-true (eqb A s₃.own) _ _ (self A) ∙ cond-true (is_peer E s₃) _ _ pe

  put_is : put (Some A) (Some E) s₃ ≡ Ok (Some (Packet (in_talk A E t y 1) (between (Some A) (Some E))))
  put_is = ap₂ (λ o u. answer o (packet_in A (Some A) E u)) put-ok sends_by

  peer_e_lem : peer_at A e₁ ≡ hello_peer t N y s_e.now (peer_at A s_e)
  peer_e_lem = stored_peer A (hello_peer t N y s_e.now (peer_at A s_e)) s_e t_e in-E

  found_e : found_talk A E t y 1 e₁ ≡ Ok (fresh_talk y t s_e.now false)
  found_e =
      cond-true (is_peer A e₁ && eqb E e₁.own) _ _ (and_from (is_peer A e₁) (eqb E e₁.own) pa (self E)) ∙
      (cond-false (eqb t 0 || eqb y 0) _ _ (or_from (eqb t 0) (eqb y 0) (nonzero t nt) (nonzero y ny)) ∙
      (ap (found_in s_e.now s_e.terms.life 1) (ap (λ (q : Peer). first_that (names y t) q.talks) peer_e_lem ∙ first_passes (names y t) (fresh_talk y t s_e.now false) (take 2 (peer_at A s_e).talks) (and_from (eqb y y) (eqb t t) (self y) (self t))) ∙
      cond-true (lives s_e.now s_e.terms.life (fresh_talk y t s_e.now false)) _ _ (le-leb s_e.now (s_e.now + s_e.terms.life) (omega arith))))

  packet-took : took (Packet (in_talk A E t y 1) (between (Some A) (Some E))) 0 e₁ ≡ Ok Out
  packet-took = ap (answered-as Out) (ap₂ if_owned (and_from (eqb A A) (eqb E e₁.own) (self A) (self E)) found_e)

is_peer_lem : (e : ℕ) (s : Gateway) (k : ℕ) → s.gates ≡ k → e < k → k ≤ 32 → (e ≡ s.own → ⊥) → is_peer e s ≡ true
is_peer_lem e s k is l few ne =
    and_from
    (ltb e s.gates)
    (ltb e 32 && not (eqb e s.own))
    (lt-ltb e s.gates (omega arith))
    (and_from (ltb e 32) (not (eqb e s.own)) (lt-ltb e 32 (omega arith)) (not_from_false (eqb e s.own) (ne_eqb e s.own ne)))

-- Two gates of the books, the net, and what came out.
record Stage (k a e : ℕ) (b : Books) (s_a s_e : Gateway) (net out : List Letter) : Type 0 where
  pub long : length b.gates ≡ k
  pub at_a : get_or b.gates a no_gate ≡ s_a
  pub at_e : get_or b.gates e no_gate ≡ s_e
  pub net_so : b.net ≡ net
  pub out_so : b.out ≡ out

-- the same, seen from the other gate
turned : {k a e : ℕ} {b : Books} {s_a s_e : Gateway} {net out : List Letter} → Stage k a e b s_a s_e net out → Stage k e a b s_e s_a net out
turned h = record { long = h.long; at_a = h.at_e; at_e = h.at_a; net_so = h.net_so; out_so = h.out_so }

module _ (owners : List ℕ) (k : ℕ) where
  -- an event whose gate and letter are there
  happens-is : (ev : EventKind) (g : ℕ) (b : Books) (s s' : Gateway) (net : List Letter) (o : Outcome) → g < length b.gates → b.net ≡ net → get_or b.gates g no_gate ≡ s → after_of owners net ev s ≡ s' →
      outcome_of owners net ev s ≡ Some o → happens owners (at_gate g ev) b ≡ entered g s' o b
  happens-is ev g b s s' net o less n at after adds =
      cond-true (ltb g (length b.gates)) _ b (lt-ltb g (length b.gates) less) ∙
      ap₂ (λ u v. entered_if g u v b) (ap₂ (λ x y. after_of owners x ev y) n at ∙ after) (ap₂ (λ x y. outcome_of owners x ev y) n at ∙ adds)

  -- the event happens at the first gate
  stage : (a e : ℕ) → a < k → (a ≡ e → ⊥) → (ev : EventKind) (b : Books) (s_a s_e s : Gateway) (net out : List Letter) (o : Outcome) → after_of owners net ev s_a ≡ s → outcome_of owners net ev s_a ≡ Some o →
      Stage k a e b s_a s_e net out → Stage k a e (happens owners (at_gate a ev) b) s s_e (net ++ list_of o.sent) (out ++ list_of o.out)
  stage a e la ne ev b s_a s_e s net out o after adds h =
      subst
      (λ z. Stage k a e z s s_e (net ++ list_of o.sent) (out ++ list_of o.out))
      (sym (happens-is ev a b s_a s net o (let q = h.long in omega arith) h.net_so h.at_a after adds))
      (record {
        long = length-set b.gates a s ∙ h.long;
        at_a = get_or-set_same b.gates a s no_gate (let q = h.long in omega arith);
        at_e = get_or-set_other b.gates a e s no_gate (λ z. ne (sym z)) ∙ h.at_e;
        net_so = ap (λ z. z ++ list_of o.sent) h.net_so;
        out_so = ap (λ z. z ++ list_of o.out) h.out_so;
      })

-- the letter that was made last
last_there : (xs : List Letter) (x : Letter) (n : ℕ) → length xs ≡ n → slice_get (xs ++ (x ∷ [])) n ≡ Some x
last_there xs x n l = slice_get-get_or (xs ++ (x ∷ [])) n x (let q = length-append xs (x ∷ []) in omega arith) ∙ ap Some (get_or_push xs x x n l)

pub can_open : CanOpen
unfolding CanOpen plays
can_open owners k life most es b a e t y p few some fits h la le' ne from to clock nt ny = final.out_so ∙ ap (λ z. b.out ++ (z ∷ [])) packet-is
  where
    s_a : Gateway
    s_a = get_or b.gates a no_gate

    s_e : Gateway
    s_e = get_or b.gates e no_gate

    st_a : Stands k life most a s_a ((world (rules_of life most (owner_in owners)) es).now a) ((world (rules_of life most (owner_in owners)) es).gates a)
    st_a = h.stands a la

    st_e : Stands k life most e s_e ((world (rules_of life most (owner_in owners)) es).now e) ((world (rules_of life most (owner_in owners)) es).gates e)
    st_e = h.stands e le'

    is_a : s_a.own ≡ a
    is_a = st_a.own_so

    is_e : s_e.own ≡ e
    is_e = st_e.own_so

    peer_e : is_peer e s_a ≡ true
    peer_e = is_peer_lem e s_a k st_a.gates_so le' few (λ z. ne (sym is_a ∙ sym z))

    peer_a : is_peer a s_e ≡ true
    peer_a = is_peer_lem a s_e k st_e.gates_so la few (λ z. ne (z ∙ is_e))

    pe : is_peer s_e.own s_a ≡ true
    pe = ap (λ z. is_peer z s_a) is_e ∙ peer_e

    pa : is_peer s_a.own s_e ≡ true
    pa = ap (λ z. is_peer z s_e) is_a ∙ peer_a

    sp_e : SamePeer ((world (rules_of life most (owner_in owners)) es).now a) ((world (rules_of life most (owner_in owners)) es).gates a) s_e.own (peer_at s_e.own s_a)
    sp_e = st_a.peers_so s_e.own pe

    old : (i : ℕ) (x : Wait) → get_or (peer_at s_e.own s_a).waits i None ≡ Some x → x.at ≤ s_a.now
    old i x q = let l = (sp_e.placed i x q).1 in let m = st_a.now_so in omega arith

    late : (peer_at s_a.own s_e).last_hello ≤ s_a.now
    late =
        let l = (inv (rules_of life most (owner_in owners)) es).kept.hellos e a in
        let q = ap (λ z. ((world (rules_of life most (owner_in owners)) es).gates e).last_hello z) is_a in
        let u = (st_e.peers_so s_a.own pa).hello_so in
        let m = st_a.now_so in
        omega arith

    most' : 0 < s_a.terms.most
    most' = let q = st_a.most_so in omega arith

    ready : Ready s_a s_e t y
    ready =
        record {
          pe = pe;
          pa = pa;
          t_a = st_a.table;
          t_e = st_e.table;
          six = sp_e.six;
          old = old;
          fell = st_a.fell_so;
          clock = clock;
          late = late;
          nt = nt;
          ny = ny;
          most = most';
        }

    n : ℕ
    n = length b.net

    N' : ℕ
    N' = (ticked s_a).now

    hello : Letter
    hello = record { word = Hello s_a.own s_e.own t N'; parcel = None }

    reply : Letter
    reply = record { word = Reply s_e.own s_a.own y t; parcel = None }

    packet : Letter
    packet = record { word = Packet (in_talk s_a.own s_e.own t y 1) (between (Some s_a.own) (Some s_e.own)); parcel = Some p }

    packet-is : packet ≡ record { word = Packet (in_talk a e t y 1) (between (Some a) (Some e)); parcel = Some p }
    packet-is j = record { word = Packet (in_talk (is_a j) (is_e j) t y 1) (between (Some (is_a j)) (Some (is_e j))); parcel = Some p }

    net₂ : List Letter
    net₂ = b.net ++ (hello ∷ [])

    net₃ : List Letter
    net₃ = net₂ ++ (reply ∷ [])

    net₅ : List Letter
    net₅ = net₃ ++ (packet ∷ [])

    len₂ : length net₂ ≡ n + 1
    len₂ = length-append b.net (hello ∷ [])

    len₃ : length net₃ ≡ n + 2
    len₃ = length-append net₂ (reply ∷ []) ∙ (let q = len₂ in omega arith)

    quiet : (c : Books) (s u : Gateway) (net out : List Letter) → Stage k a e c s u (net ++ []) (out ++ []) → Stage k a e c s u net out
    quiet c s u net out z = subst (λ w. Stage k a e c s u w out) (append-nil net) (subst (λ w. Stage k a e c s u (net ++ []) w) (append-nil out) z)

    spoken : (c : Books) (s u : Gateway) (net out : List Letter) → Stage k a e c s u net (out ++ []) → Stage k a e c s u net out
    spoken c s u net out z = subst (λ w. Stage k a e c s u net w) (append-nil out) z

    b₁ : Books
    b₁ = happens owners (at_gate a Tick) b

    b₂ : Books
    b₂ = happens owners (at_gate a (Greet e t)) b₁

    b₃ : Books
    b₃ = happens owners (at_gate e (Bring n (Some y))) b₂

    b₄ : Books
    b₄ = happens owners (at_gate a (Bring (n + 1) None)) b₃

    b₅ : Books
    b₅ = happens owners (at_gate a (Put p)) b₄

    x₂ : Gateway
    x₂ = s₂ s_a s_e t y ready

    x₃ : Gateway
    x₃ = s₃ s_a s_e t y ready

    y₁ : Gateway
    y₁ = e₁ s_a s_e t y ready

    st₁ : Stage k a e b₁ (ticked s_a) s_e b.net b.out
    st₁ = quiet b₁ (ticked s_a) s_e b.net b.out (stage owners k a e la ne Tick b s_a s_e (ticked s_a) b.net b.out silent refl refl (record { long = h.all; at_a = refl; at_e = refl; net_so = refl; out_so = refl }))

    st₂ : Stage k a e b₂ x₂ s_e net₂ b.out
    st₂ =
        spoken b₂ x₂ s_e net₂ b.out
        (stage owners k a e la ne (Greet e t) b₁ (ticked s_a) s_e x₂ b.net b.out (record { sent = Some hello; put = None; out = None })
        (ap (λ z. greet_after z t (ticked s_a)) (sym is_e) ∙ greet-after s_a s_e t y ready)
        (ap (λ o. Some (record { sent = letter_of None o; put = None; out = None })) (ap (λ z. greet z t (ticked s_a)) (sym is_e) ∙ greet-is s_a s_e t y ready))
        st₁)

    st₃ : Stage k a e b₃ x₂ y₁ net₃ b.out
    st₃ =
        spoken b₃ x₂ y₁ net₃ b.out
        (turned (stage owners k e a le' (λ z. ne (sym z)) (Bring n (Some y)) b₂ s_e x₂ y₁ net₂ b.out (record { sent = Some reply; put = None; out = None })
        (ap (after_letter owners y s_e) (last_there b.net hello n refl) ∙ hello-after s_a s_e t y ready)
        (ap (letter_adds owners y s_e) (last_there b.net hello n refl) ∙ ap (λ r. Some (brought_out hello r)) (hello-took s_a s_e t y ready))
        (turned st₂)))

    st₄ : Stage k a e b₄ x₃ y₁ net₃ b.out
    st₄ =
        quiet b₄ x₃ y₁ net₃ b.out
        (stage owners k a e la ne (Bring (n + 1) None) b₃ x₂ y₁ x₃ net₃ b.out silent
        (ap (after_letter owners 0 x₂) (last_there net₂ reply (n + 1) len₂) ∙ reply-after s_a s_e t y ready)
        (ap (letter_adds owners 0 x₂) (last_there net₂ reply (n + 1) len₂) ∙ ap (λ r. Some (brought_out reply r)) (reply-took s_a s_e t y ready))
        st₃)

    from_is : owner_at owners p.from ≡ Some s_a.own
    from_is = known_at owners p.from a from (omega arith) ∙ ap Some (sym is_a)

    to-is : owner_at owners p.to ≡ Some s_e.own
    to-is = known_at owners p.to e to (omega arith) ∙ ap Some (sym is_e)

    put_so : put (owner_at owners p.from) (owner_at owners p.to) x₃ ≡ Ok (Some packet.word)
    put_so = ap₂ (λ u v. put u v x₃) from_is to-is ∙ put_is s_a s_e t y ready

    st₅ : Stage k a e b₅ (put_after (owner_at owners p.from) (owner_at owners p.to) x₃) y₁ net₅ b.out
    st₅ =
        spoken b₅ _ y₁ net₅ b.out
        (stage owners k a e la ne (Put p) b₄ x₃ y₁ (put_after (owner_at owners p.from) (owner_at owners p.to) x₃) net₃ b.out (record { sent = Some packet; put = Some packet; out = None }) refl
        (ap (λ o. Some (record { sent = letter_of (Some p) (gone_out o); put = letter_of (Some p) (gone_out o); out = None })) put_so)
        st₄)

    letter₅ : slice_get net₅ (n + 2) ≡ Some packet
    letter₅ = last_there net₃ packet (n + 2) len₃

    opened-is : opened owners packet ≡ packet.word
    opened-is = ap₂ (λ u v. Packet (in_talk s_a.own s_e.own t y 1) (between u v)) from_is to-is

    final : Stage k a e (happens owners (at_gate e (Bring (n + 2) None)) b₅) (put_after (owner_at owners p.from) (owner_at owners p.to) x₃) (after_letter owners 0 y₁ (slice_get net₅ (n + 2))) (net₅ ++ []) (b.out ++ (packet ∷ []))
    final =
        turned (stage owners k e a le' (λ z. ne (sym z)) (Bring (n + 2) None) b₅ y₁ _ _ net₅ b.out (record { sent = None; put = None; out = Some packet }) refl
        (ap (letter_adds owners 0 y₁) letter₅ ∙ ap (λ r. Some (brought_out packet r)) (ap (λ w. took w 0 y₁) opened-is ∙ packet-took s_a s_e t y ready))
        (turned st₅))
