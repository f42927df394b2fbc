-- A letter that was put in or came out carries its packet: a packet is sent with it, and only a packet comes out. Assumes nothing.
use Rattle.std.proofs.Common.{◌≡◌, ℕ, zero, suc, Bool, true, false, cond, ltb, List, [], ◌∷◌, length, get_or, is_some, Some, None, Ok, Err, Option, Result, sym, refl, subst, slice_get}
use Rattle.std.specs.Prelude.{All, unwrap_or}
use Rattle.std.proofs.lemmas.Bool.{cond_both}
use Rattle.std.proofs.lemmas.List.Elements.{All-nil, All-cons, All-head, All-tail, All-append}
use Rattle.protocol.specs.declared.refusals.Refusal.{Refusal}
use Rattle.gateway.specs.declared.state.Talk.{Talk}
use Rattle.gateway.specs.declared.state.Gateway.{Gateway}
use Rattle.gateway.specs.declared.state.Word.{Word}
use Rattle.gateway.specs.declared.state.Word.TheVariants.{Hello, Reply, Packet, Empty}
use Rattle.gateway.specs.declared.state.Taken.{Taken}
use Rattle.gateway.specs.declared.state.Taken.TheVariants.{Answer, Sure, Out, Alive}
use Rattle.gateway.specs.Steps.{may_greet, answer, hello_fault, reply_fault, found_talk, packet_talk, took, put}
use Rattle.gateway.specs.Steps.{taken as answered-as}
use Rattle.refinement.specs.declared.state.Parcel.{Parcel}
use Rattle.refinement.specs.declared.state.Letter.{Letter}
use Rattle.refinement.specs.declared.state.Event.{Event}
use Rattle.refinement.specs.declared.state.EventKind.{EventKind}
use Rattle.refinement.specs.declared.state.EventKind.TheVariants.{Tick, Restart, Greet, Put, Bring}
use Rattle.refinement.specs.declared.state.Outcome.{Outcome}
use Rattle.refinement.specs.Calls.{as_code, as_word, gone_out}
use Rattle.refinement.specs.Sea.{owner_at, inner_in, opened, Books, letter_of, silent, brought_out, list_of, no_gate, entered, entered_if, letter_adds, after_letter, after_of, outcome_of, happens, plays, Carries, CarriesIts, AllCarried}

-- each letter that an event adds carries its packet
record AddsCarried (o : Outcome) : Type 0 where
  pub net : All CarriesIts (list_of o.sent)
  pub put : All Carries (list_of o.put)
  pub out : All Carries (list_of o.out)

one : (P : Letter → Type 0) (l : Letter) → P l → All P (l ∷ [])
one P l h = All-cons P l [] h (All-nil P)

nothing_added : AddsCarried silent
nothing_added = record { net = All-nil CarriesIts; put = All-nil Carries; out = All-nil Carries }

added : (g : ℕ) (s : Gateway) (o : Outcome) (b : Books) → AllCarried b → AddsCarried o → AllCarried (entered g s o b)
added g s o b h a =
    record {
      net = All-append CarriesIts b.net (list_of o.sent) h.net a.net;
      put = All-append Carries b.put (list_of o.put) h.put a.put;
      out = All-append Carries b.out (list_of o.out) h.out a.out;
    }

-- the letter at a place is one of all
all_at : (P : Letter → Type 0) (xs : List Letter) (i : ℕ) (l : Letter) → All P xs → slice_get xs i ≡ Some l → P l
all_at P [] i l h e = absurd (cc)
all_at P (x ∷ xs) zero l h e = let same : x ≡ l = cc in subst P same (All-head P x xs h)
all_at P (x ∷ xs) (suc i) l h e = all_at P xs i l (All-tail P x xs h) e

-- a word that is no packet's does not come out
no_answer_out : (o : Option Refusal) (w : Word) → answer o (Answer w) ≡ Ok Out → ⊥
no_answer_out None w e = cc
no_answer_out (Some f) w e = cc

no_sure_out : (o : Option Refusal) → answer o Sure ≡ Ok Out → ⊥
no_sure_out None e = cc
no_sure_out (Some f) e = cc

no_alive_out : (v : Result Talk Refusal) → answered-as Alive v ≡ Ok Out → ⊥
no_alive_out (Err f) e = cc
no_alive_out (Ok u) e = cc

comes_out : (owners : List ℕ) (l : Letter) (t : ℕ) (s : Gateway) → CarriesIts l → took (opened owners l) t s ≡ Ok Out → Carries l
comes_out owners l t s = go l.word l.parcel
  where
    go : (w : Word) (p : Option Parcel) → CarriesIts (record { word = w; parcel = p }) → took (as_code (owner_at owners) (as_word (inner_in p) w)) t s ≡ Ok Out → is_some p ≡ true
    go (Hello a e tag n) p c h = absurd (no_answer_out (hello_fault a e tag n t s) (Reply s.own a t tag) h)
    go (Reply a e tag to) p c h = absurd (no_sure_out (reply_fault a e tag to s) h)
    go (Packet q o) p c h = c
    go (Empty q) p c h = absurd (no_alive_out (found_talk q.by q.to q.tags.mine q.tags.theirs q.number s) h)

-- an answer is no packet's
is_reply : (o : Option Refusal) (a e t n : ℕ) (w : Word) → answer o (Answer (Reply a e t n)) ≡ Ok (Answer w) → CarriesIts (record { word = w; parcel = None })
is_reply None a e t n w h = let same : Reply a e t n ≡ w = cc in subst (λ z. CarriesIts (record { word = z; parcel = None })) same tt
is_reply (Some f) a e t n w h = absurd (cc)

not_sure : (o : Option Refusal) (w : Word) → answer o Sure ≡ Ok (Answer w) → ⊥
not_sure None w h = cc
not_sure (Some f) w h = cc

not_found : (d : Taken) (v : Result Talk Refusal) (w : Word) → (d ≡ Answer w → ⊥) → answered-as d v ≡ Ok (Answer w) → ⊥
not_found d (Err f) w n h = cc
not_found d (Ok u) w n h = n (cc)

answers : (owners : List ℕ) (l : Letter) (t : ℕ) (s : Gateway) (v : Word) → took (opened owners l) t s ≡ Ok (Answer v) → CarriesIts (record { word = v; parcel = None })
answers owners l t s v = go l.word l.parcel
  where
    go : (w : Word) (p : Option Parcel) → took (as_code (owner_at owners) (as_word (inner_in p) w)) t s ≡ Ok (Answer v) → CarriesIts (record { word = v; parcel = None })
    go (Hello a e tag n) p h = is_reply (hello_fault a e tag n t s) s.own a t tag v h
    go (Reply a e tag to) p h = absurd (not_sure (reply_fault a e tag to s) v h)
    go (Packet q o) p h =
        absurd (not_found Out (packet_talk q.by q.to q.tags.mine q.tags.theirs q.number (owner_at owners (inner_in p).from) (owner_at owners (inner_in p).to) s) v (λ e. cc) h)
    go (Empty q) p h = absurd (not_found Alive (found_talk q.by q.to q.tags.mine q.tags.theirs q.number s) v (λ e. cc) h)

brought_carried : (l : Letter) (res : Result Taken Refusal) → (res ≡ Ok Out → Carries l) → ((w : Word) → res ≡ Ok (Answer w) → CarriesIts (record { word = w; parcel = None })) → AddsCarried (brought_out l res)
brought_carried l (Ok (Answer w)) o a = record { net = one CarriesIts (record { word = w; parcel = None }) (a w refl); put = All-nil Carries; out = All-nil Carries }
brought_carried l (Ok Sure) o a = nothing_added
brought_carried l (Ok Out) o a = record { net = All-nil CarriesIts; put = All-nil Carries; out = one Carries l (o refl) }
brought_carried l (Ok Alive) o a = nothing_added
brought_carried l (Err f) o a = nothing_added

-- a packet is sent with its letter
sent_with : (p : Parcel) (w : Word) → CarriesIts (record { word = w; parcel = Some p })
sent_with p (Hello a e t n) = tt
sent_with p (Reply a e t k) = tt
sent_with p (Packet q o) = refl
sent_with p (Empty q) = tt

put_carried : (p : Parcel) (w : Option Word) → AddsCarried (record { sent = letter_of (Some p) w; put = letter_of (Some p) w; out = None })
put_carried p None = nothing_added
put_carried p (Some w) =
    let l : Letter = record { word = w; parcel = Some p } in
    record { net = one CarriesIts l (sent_with p w); put = one Carries l refl; out = All-nil Carries }

greet_carried : (c : Bool) (a e t n : ℕ) → AddsCarried (record { sent = letter_of None (cond c (Some (Hello a e t n)) None); put = None; out = None })
greet_carried true a e t n = record { net = one CarriesIts (record { word = Hello a e t n; parcel = None }) tt; put = All-nil Carries; out = All-nil Carries }
greet_carried false a e t n = nothing_added

happens_carried : (owners : List ℕ) (ev : Event) (b : Books) → AllCarried b → AllCarried (happens owners ev b)
happens_carried owners ev b h = cond_both (ltb ev.gate (length b.gates)) _ b AllCarried (λ _. go ev.kind) (λ _. h)
  where
    s : Gateway
    s = get_or b.gates ev.gate no_gate

    by_letter : (t : ℕ) (o : Option Letter) → ((l : Letter) → o ≡ Some l → CarriesIts l) → AllCarried (entered_if ev.gate (after_letter owners t s o) (letter_adds owners t s o) b)
    by_letter t None c = h
    by_letter t (Some l) c = added ev.gate _ _ b h (brought_carried l (took (opened owners l) t s) (comes_out owners l t s (c l refl)) (answers owners l t s))

    go : (e : EventKind) → AllCarried (entered_if ev.gate (after_of owners b.net e s) (outcome_of owners b.net e s) b)
    go Tick = added ev.gate _ _ b h nothing_added
    go Restart = added ev.gate _ _ b h nothing_added
    go (Greet e t) = added ev.gate _ _ b h (greet_carried (may_greet e t s) s.own e t s.now)
    go (Put p) = added ev.gate _ _ b h (put_carried p (gone_out (put (owner_at owners p.from) (owner_at owners p.to) s)))
    go (Bring i t) = by_letter (unwrap_or t 0) (slice_get b.net i) (λ l e. all_at CarriesIts b.net i l h.net e)

plays_carried : (owners : List ℕ) (events : List Event) (b : Books) → AllCarried b → AllCarried (plays owners events b)
unfolding plays
plays_carried owners [] b h = h
plays_carried owners (e ∷ es) b h = plays_carried owners es (happens owners e b) (happens_carried owners e b h)

-- the same of the books that an event, or a list of them, left
pub stepped_carried : (owners : List ℕ) (ev : Event) (b after : Books) → after ≡ happens owners ev b → AllCarried b → AllCarried after
stepped_carried owners ev b after e h = subst AllCarried (sym e) (happens_carried owners ev b h)

pub played_carried : (owners : List ℕ) (events : List Event) (b after : Books) → after ≡ plays owners events b → AllCarried b → AllCarried after
played_carried owners events b after e h = subst AllCarried (sym e) (plays_carried owners events b h)

-- there are no letters yet
pub none_carried : (gates : List Gateway) (net put out : List Letter) → net ≡ [] → put ≡ [] → out ≡ [] → AllCarried (record { gates = gates; net = net; put = put; out = out })
none_carried gates net put out n p o =
    record { net = subst (All CarriesIts) (sym n) (All-nil CarriesIts); put = subst (All Carries) (sym p) (All-nil Carries); out = subst (All Carries) (sym o) (All-nil Carries) }
