-- Many gates that run the code, and a net that keeps every word and brings any of them to anybody; and what is promised of them. Assumes nothing.
use Rattle.std.specs.Prelude.{◌≡◌, ℕ, ◌+◌, ◌-◌, ◌^◌, ◌<◌, ◌≤◌, true, false, cond, List, [], ◌∷◌, ◌++◌, map, length, get_or, All, is_some, Some, None, Ok, Err, vec_items, vec_len, vec_capacity, Option, Result, ◌≢◌, nat_lt, option_map, unwrap_or, slice_get, slice_index_or, slice_set}
use Rattle.std.specs.List.{range_with_len}
use Rattle.protocol.specs.declared.refusals.Refusal.{Refusal}
use Rattle.gates.specs.Lists.{In, At}
use Rattle.gates.specs.Talk.{Inner}
use Rattle.gates.specs.World.{Note, Ev, world}
use Rattle.gates.specs.World.{Word as Sealed, Packet as PacketWord}
use Rattle.gates.specs.World as worlds
use Rattle.gates.specs.Promise.{Whole, GreetsBelow, lied, mirror, note_of, for_of}
use Rattle.gates.specs.Code.{AllNew}
use Rattle.gateway.specs.declared.state.Gateway.{Gateway}
use Rattle.gateway.specs.declared.state.Owners.{Owners}
use Rattle.gateway.specs.declared.state.Word.{Word}
use Rattle.gateway.specs.declared.state.Word.TheVariants.{Hello, Reply, Packet, Empty}
use Rattle.gateway.specs.declared.state.Taken.{Taken}
use Rattle.gateway.specs.declared.state.Taken.TheVariants.{Answer, Sure, Out, Alive}
use Rattle.gateway.specs.Steps.{in_talk, between, fresh, took, took_after, put, put_after, greet, greet_after, ticked, restarted}
use Rattle.refinement.specs.declared.state.Parcel.{Parcel}
use Rattle.refinement.specs.declared.state.Letter.{Letter}
use Rattle.refinement.specs.declared.state.Event.{Event}
use Rattle.refinement.specs.declared.state.EventKind.{EventKind}
use Rattle.refinement.specs.declared.state.EventKind.TheVariants.{Tick, Restart, Greet, Put, Bring}
use Rattle.refinement.specs.declared.state.Outcome.{Outcome}
use Rattle.refinement.specs.declared.state.Sea.{Sea}
use Rattle.refinement.specs.Relation.{rules_of, Stands}
use Rattle.refinement.specs.Calls.{as_code, as_word, nothing, gone_out, put_as}

-- Who owns an address: a table by address; what it lacks is nobody's.
abbrev pub owner_in : List ℕ → ℕ → ℕ
owner_in owners x = slice_index_or owners x 255

-- the same as the code has it: none where the table lacks the address
abbrev pub owner_at : List ℕ → ℕ → Option ℕ
owner_at owners x = slice_get owners x

-- who owns a packet's addresses
abbrev pub owners_of : List ℕ → Inner → Owners
owners_of owners x = between (owner_at owners x.from) (owner_at owners x.to)

abbrev pub inner_of : Parcel → Inner
inner_of p = record { from = p.from; to = p.to; what = p.what ∷ [] }

-- the packet in a letter, if it carries one
abbrev pub inner_in : Option Parcel → Inner
inner_in None = nothing
inner_in (Some p) = inner_of p

-- A letter as a word of the abstract protocol.
abbrev pub sealed_of : Letter → Sealed
sealed_of l = as_word (inner_in l.parcel) l.word

-- The word that a gate takes a letter for: of a packet, with the owners of its addresses.
abbrev pub opened : List ℕ → Letter → Word
opened owners l = as_code (owner_at owners) (sealed_of l)

-- The gates' memories, all words ever made, and all that was put in and came out, the earliest first.
pub record Books : Type 0 where
  pub gates : List Gateway
  pub net : List Letter
  pub put : List Letter
  pub out : List Letter

-- the letter for a word that was made, with the packet that it carries, if it carries one
abbrev pub letter_of : Option Parcel → Option Word → Option Letter
letter_of p o = option_map (λ w. record { word = w; parcel = p }) o

abbrev pub silent : Outcome
silent = record { sent = None; put = None; out = None }

-- what a word that is taken or refused adds
abbrev pub brought_out : Letter → Result Taken Refusal → Outcome
brought_out l (Ok (Answer w)) = record { sent = Some (record { word = w; parcel = None }); put = None; out = None }
brought_out l (Ok Sure) = silent
brought_out l (Ok Out) = record { sent = None; put = None; out = Some l }
brought_out l (Ok Alive) = silent
brought_out l (Err f) = silent

abbrev pub list_of : Option Letter → List Letter
list_of None = []
list_of (Some l) = l ∷ []

-- what is read past the last gate
abbrev pub no_gate : Gateway
no_gate = record { own = 0; gates = 0; terms = record { life = 0; most = 0 }; now = 0; fell = 0; peers = [] }

-- gate g did this
abbrev pub entered : (g : ℕ) → Gateway → Outcome → Books → Books
entered g s o b =
    record { gates = slice_set b.gates g s; net = b.net ++ list_of o.sent; put = b.put ++ list_of o.put; out = b.out ++ list_of o.out }

-- gate g did this, if it did anything
abbrev pub entered_if : (g : ℕ) → Gateway → Option Outcome → Books → Books
entered_if g s None b = b
entered_if g s (Some o) b = entered g s o b

-- A letter that is brought, if it is there: what it leaves in the gate's memory, and what it adds.
abbrev pub after_letter : List ℕ → (tag : ℕ) → Gateway → Option Letter → Gateway
after_letter owners t s None = s
after_letter owners t s (Some l) = took_after (opened owners l) t s

abbrev pub letter_adds : List ℕ → (tag : ℕ) → Gateway → Option Letter → Option Outcome
letter_adds owners t s o = option_map (λ l. brought_out l (took (opened owners l) t s)) o

-- WHAT AN EVENT DOES to its gate, by the definitions that the gate's contracts cite. The letter that it brings is the one at its place of the net.
abbrev pub after_of : List ℕ → List Letter → EventKind → Gateway → Gateway
after_of owners net Tick s = ticked s
after_of owners net Restart s = restarted s
after_of owners net (Greet e t) s = greet_after e t s
after_of owners net (Put p) s = put_after (owner_at owners p.from) (owner_at owners p.to) s
after_of owners net (Bring i t) s = after_letter owners (unwrap_or t 0) s (slice_get net i)

-- WHAT IT ADDS; none where the letter that it brings is not there, and then nothing happens.
abbrev pub outcome_of : List ℕ → List Letter → EventKind → Gateway → Option Outcome
outcome_of owners net Tick s = Some silent
outcome_of owners net Restart s = Some silent
outcome_of owners net (Greet e t) s = Some (record { sent = letter_of None (greet e t s); put = None; out = None })
outcome_of owners net (Put p) s =
    Some (record {
      sent = letter_of (Some p) (gone_out (put (owner_at owners p.from) (owner_at owners p.to) s));
      put = letter_of (Some p) (gone_out (put (owner_at owners p.from) (owner_at owners p.to) s));
      out = None;
    })
outcome_of owners net (Bring i t) s = letter_adds owners (unwrap_or t 0) s (slice_get net i)

-- what an event of this kind does at gate g, whose memory is s
abbrev pub happens_at : List ℕ → (g : ℕ) → EventKind → Gateway → Books → Books
happens_at owners g e s b = entered_if g (after_of owners b.net e s) (outcome_of owners b.net e s) b

-- The books after an event; where its gate or its letter is not there, nothing happens.
abbrev pub happens : List ℕ → Event → Books → Books
happens owners e b =
    cond (nat_lt e.gate (length b.gates)) (happens_at owners e.gate e.kind (slice_index_or b.gates e.gate no_gate) b) b

-- the lists in a sea's memory
abbrev pub books_of : Sea → Books
books_of s = record { gates = vec_items s.gates; net = vec_items s.net; put = vec_items s.put; out = vec_items s.out }

-- there is room for one letter more in each list
pub record HasRoom (s : Sea) : Type 0 where
  pub net : vec_len s.net < vec_capacity s.net
  pub put : vec_len s.put < vec_capacity s.put
  pub out : vec_len s.out < vec_capacity s.out

-- This letter carries a packet.
abbrev pub Carries : Letter → Type 0
Carries l = is_some l.parcel ≡ true

-- a word goes with its packet, if it is a packet's
abbrev pub Laden : Word → Option Parcel → Type 0
Laden (Hello a e t n) p = Unit {0}
Laden (Reply a e t k) p = Unit {0}
Laden (Packet q o) p = is_some p ≡ true
Laden (Empty q) p = Unit {0}

abbrev pub CarriesIts : Letter → Type 0
CarriesIts l = Laden l.word l.parcel

-- Each letter that was put in or came out carries a packet, and so does each packet's letter of the net.
pub record AllCarried (b : Books) : Type 0 where
  pub net : All CarriesIts b.net
  pub put : All Carries b.put
  pub out : All Carries b.out

-- The books after a list of events, the earliest first.
unfoldable pub plays : List ℕ → List Event → Books → Books
plays owners [] b = b
plays owners (e ∷ es) b = plays owners es (happens owners e b)

-- the tags that events offer
abbrev pub tag_of : EventKind → List ℕ
tag_of Tick = []
tag_of Restart = []
tag_of (Greet e t) = t ∷ []
tag_of (Put p) = []
tag_of (Bring i t) = cond (nat_lt 0 (unwrap_or t 0)) (unwrap_or t 0 ∷ []) []

unfoldable pub tags_of : List Event → List ℕ
tags_of [] = []
tags_of (e ∷ es) = tag_of e.kind ++ tags_of es

-- what letters stand for, the latest first
unfoldable pub backwards : {A : Type 0} → (Letter → List A) → List Letter → List A
backwards f [] = []
backwards f (l ∷ ls) = backwards f ls ++ f l

-- Letters as words of the net, as notes of what was put in, and as notes of what came out.
abbrev pub words_of : List Letter → List Sealed
words_of ls = backwards (λ l. sealed_of l ∷ []) ls

abbrev pub puts_of : List Letter → List Note
puts_of ls = backwards (λ l. put_as (inner_in l.parcel) (Some l.word)) ls

abbrev pub outs_of : List Letter → List Note
outs_of ls = backwards (λ l. note_of (for_of (sealed_of l)) (sealed_of l)) ls

-- These books are those of a run of the abstract protocol, in which nobody lies: each memory stands for its gate, and net, put and out are the run's.
pub record Reached (k life most : ℕ) (owner : ℕ → ℕ) (b : Books) (es : List Ev) : Type 0 where
  pub all : length b.gates ≡ k
  pub stands : (a : ℕ) → a < k → Stands k life most a (slice_index_or b.gates a no_gate) ((world (rules_of life most owner) es).now a) ((world (rules_of life most owner) es).gates a)
  pub net_so : (world (rules_of life most owner) es).net ≡ words_of b.net
  pub put_so : (world (rules_of life most owner) es).put ≡ puts_of b.put
  pub out_so : (world (rules_of life most owner) es).out ≡ outs_of b.out
  pub below : GreetsBelow k es
  pub honest : (a : ℕ) → lied a es ≡ false

-- THE PROMISE, of gates that run the code: what came out was put in, at the gate that owns its source, for the gate that owns its destination and let it out, in
-- the same talk, under the same number; no two places of what came out are one that was put in; and a packet goes over the net only if it was put in just so, by
-- the gate that owns its source for the gate that owns its destination.
pub record Kept (owner : ℕ → ℕ) (b : Books) : Type 0 where
  pub was_put : (o : Note) → In o (outs_of b.out) → In (mirror o) (puts_of b.put) × (owner o.inner.from ≡ o.other) × (owner o.inner.to ≡ o.gate)
  pub once : (i j : ℕ) (o q : Note) → At i o (outs_of b.out) → At j q (outs_of b.out) → mirror o ≡ mirror q → i ≡ j
  pub nothing_bare : (a e m h n : ℕ) (x : Inner) → In (PacketWord a e m h n x) (words_of b.net) →
      In (worlds.note a e m h n x) (puts_of b.put) × (owner x.from ≡ a) × (owner x.to ≡ e)

-- From books of a run, with tags that are new, any events lead to books of a run of which the promise holds, and with it all of the abstract protocol's.
unfoldable pub Plays : (owners : List ℕ) → List Event → Books → Books → Type 0
Plays owners events b after =
    (k life most : ℕ) (es : List Ev) → k ≤ 32 → most < 2 ^ 32 → Reached k life most (owner_in owners) b es → AllNew (tags_of events) (world (rules_of life most (owner_in owners)) es) →
    (later : List Ev) × Reached k life most (owner_in owners) after (later ++ es) × Whole (rules_of life most (owner_in owners)) (later ++ es) × Kept (owner_in owners) after

-- the first n of k gates, just made
abbrev pub new_gates : (k life most n : ℕ) → List Gateway
new_gates k life most n = map (λ a. fresh a k life most) (range_with_len 0 n)

-- A sea that was just made is at the beginning of a run, whoever owns which address.
unfoldable pub Begun : (k life most : ℕ) → Books → Type 0
Begun k life most b = (owner : ℕ → ℕ) → Reached k life most owner b []

-- an event of this kind at gate g
abbrev pub at_gate : (g : ℕ) → EventKind → Event
at_gate g e = record { gate = g; kind = e }

-- Gate a, at a new tick, greets gate e under tag t; the hello is brought, and then its reply, for which e draws y; p is put in at a, and brought. n: how many words
-- were made before.
abbrev pub opening : (a e t y n : ℕ) → Parcel → List Event
opening a e t y n p =
    at_gate a Tick ∷ at_gate a (Greet e t) ∷ at_gate e (Bring n (Some y)) ∷ at_gate a (Bring (n + 1) None) ∷ at_gate a (Put p) ∷ at_gate e (Bring (n + 2) None) ∷ []

-- IT ALWAYS CAN: from books of any run, whatever the net did before, that lets p out at e, once; each word that is brought is one that was made on the way.
unfoldable pub CanOpen : Type 0
CanOpen =
    (owners : List ℕ) (k life most : ℕ) (es : List Ev) (b : Books) (a e t y : ℕ) (p : Parcel) → k ≤ 32 → 0 < most → most < 2 ^ 32 → Reached k life most (owner_in owners) b es →
    a < k → e < k → (a ≢ e) → owner_in owners p.from ≡ a → owner_in owners p.to ≡ e → (get_or b.gates a no_gate).now < 2 ^ 64 - 1 → 0 < t → 0 < y →
    (plays owners (opening a e t y (length b.net) p) b).out ≡ b.out ++ (record { word = Packet (in_talk a e t y 1) (between (Some a) (Some e)); parcel = Some p } ∷ [])
