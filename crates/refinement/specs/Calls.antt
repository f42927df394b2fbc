-- Which events of the abstract protocol each call of a gate's code is, and what it adds to the net, to what was put in and came out, and to the drawn tags.
-- Assumes nothing.
use Rattle.std.specs.Prelude.{◌≡◌, ◌≢◌, ℕ, ◌-◌, ◌^◌, ◌≤◌, false, cond, List, [], ◌∷◌, Some, None, Ok, Err, Option, Result, nat_lt, slice_index_or}
use Rattle.protocol.specs.declared.refusals.Refusal.{Refusal}
use Rattle.gates.specs.Talk.{Inner}
use Rattle.gates.specs.World.{Note, Ev, Tick, Greets, Puts, Brings, Restarts, Drops, note}
use Rattle.gates.specs.World.{Word as Sealed, Hello as HelloWord, Reply as ReplyWord, Packet as PacketWord, Empty as EmptyWord}
use Rattle.gates.specs.Promise.{by_of, note_of}
use Rattle.gates.specs.Code.{Did}
use Rattle.gateway.specs.declared.state.Talk.{Talk}
use Rattle.gateway.specs.declared.state.Peer.{Peer}
use Rattle.gateway.specs.declared.state.Gateway.{Gateway}
use Rattle.gateway.specs.declared.state.Owners.{Owners}
use Rattle.gateway.specs.declared.state.Word.{Word}
use Rattle.gateway.specs.declared.state.Word.TheVariants.{Hello, Reply, Packet, Empty}
use Rattle.gateway.specs.declared.state.Taken.{Taken}
use Rattle.gateway.specs.declared.state.Taken.TheVariants.{Answer, Sure, Out, Alive}
use Rattle.gateway.specs.Steps.{in_talk, between, is_peer, peer_at, took, took_after, put, put_after, may_greet, greet, greet_after, ticked, restarted}

-- What the owner of a gate can ask of it.
pub data Call : Type 0 where
  -- a tick passes
  Ticks : Call
  -- a hello to gate e is made under a drawn tag
  Says : (e tag : ℕ) → Call
  -- a packet is put in
  Sends : Inner → Call
  -- the gate is switched off and on
  Falls : Call

-- the tags that a call may draw
abbrev pub offers : Call → List ℕ
offers Ticks = []
offers (Says e t) = t ∷ []
offers (Sends x) = []
offers Falls = []

-- the tag that is drawn first; 0 where there is none
abbrev pub drawn_of : List ℕ → ℕ
drawn_of [] = 0
drawn_of (t ∷ ts) = t

-- What the code knows of who owns which address, where each address is owned.
abbrev pub all_known : (ℕ → ℕ) → ℕ → Option ℕ
all_known owner x = Some (owner x)

-- Among k gates this is the abstract protocol's number for an owner that the code may know: nobody's is any number that is none of theirs.
abbrev pub IsOwner : ℕ → Option ℕ → ℕ → Type 0
IsOwner k (Some g) n = n ≡ g
IsOwner k None n = k ≤ n

-- What the code knows of who owns which address is what the abstract protocol says, among k gates.
abbrev pub Knows : ℕ → (ℕ → Option ℕ) → (ℕ → ℕ) → Type 0
Knows k known owner = (x : ℕ) → IsOwner k (known x) (owner x)

-- A word of the abstract protocol as the code has it: of a packet only the owners of its addresses, as far as they are known.
abbrev pub as_code : (ℕ → Option ℕ) → Sealed → Word
as_code known (HelloWord a e t n) = Hello a e t n
as_code known (ReplyWord a e t k) = Reply a e t k
as_code known (PacketWord a e m h n x) = Packet (in_talk a e m h n) (between (known x.from) (known x.to))
as_code known (EmptyWord a e m h n) = Empty (in_talk a e m h n)

-- The abstract protocol's number for an owner that the code may know: nobody's is any number that is no gate's.
abbrev pub Numbers : Gateway → Option ℕ → ℕ → Type 0
Numbers s (Some g) n = n ≡ g
Numbers s None n = (n ≢ s.own) × (is_peer n s ≡ false)

-- This word is what the code has for a word of the abstract protocol: of a packet, as far as the owners of its addresses are known.
abbrev pub ReadsAs : Gateway → (ℕ → ℕ) → Sealed → Word → Type 0
ReadsAs s owner (HelloWord a e t n) w = Hello a e t n ≡ w
ReadsAs s owner (ReplyWord a e t k) w = Reply a e t k ≡ w
ReadsAs s owner (PacketWord a e m h n x) w = (o : Owners) × (Packet (in_talk a e m h n) o ≡ w) × Numbers s o.source (owner x.from) × Numbers s o.goal (owner x.to)
ReadsAs s owner (EmptyWord a e m h n) w = Empty (in_talk a e m h n) ≡ w

-- A word of the code's, which may carry a packet, as a word of the abstract protocol.
abbrev pub as_word : Inner → Word → Sealed
as_word x (Hello a e t n) = HelloWord a e t n
as_word x (Reply a e t k) = ReplyWord a e t k
as_word x (Packet p o) = PacketWord p.by p.to p.tags.mine p.tags.theirs p.number x
as_word x (Empty p) = EmptyWord p.by p.to p.tags.mine p.tags.theirs p.number

-- what stands for the packet of a word that carries none
abbrev pub nothing : Inner
nothing = record { from = 0; to = 0; what = 0 ∷ [] }

-- the words that go out for an answer
abbrev pub sent_for : Result Taken Refusal → List Sealed
sent_for (Ok (Answer w)) = as_word nothing w ∷ []
sent_for (Ok Sure) = []
sent_for (Ok Out) = []
sent_for (Ok Alive) = []
sent_for (Err f) = []

-- the tags that were drawn for it
abbrev pub drew_for : ℕ → Result Taken Refusal → List ℕ
drew_for t (Ok (Answer w)) = t ∷ []
drew_for t (Ok Sure) = []
drew_for t (Ok Out) = []
drew_for t (Ok Alive) = []
drew_for t (Err f) = []

-- what comes out for it at gate a
abbrev pub out_for : ℕ → Sealed → Result Taken Refusal → List Note
out_for a x (Ok (Answer w)) = []
out_for a x (Ok Sure) = []
out_for a x (Ok Out) = note_of a x
out_for a x (Ok Alive) = []
out_for a x (Err f) = []

-- the oldest of three talks is dropped, if there are three
abbrev pub drops_oldest : ℕ → Option Talk → List Ev
drops_oldest a None = []
drops_oldest a (Some t) = Drops a t.tags.mine ∷ []

-- where a hello or a reply is taken, the oldest of three talks with its maker is dropped
abbrev pub drops_for : ℕ → Peer → Result Taken Refusal → List Ev
drops_for a p (Ok (Answer w)) = drops_oldest a (slice_index_or p.talks 2 None)
drops_for a p (Ok Sure) = drops_oldest a (slice_index_or p.talks 2 None)
drops_for a p (Ok Out) = []
drops_for a p (Ok Alive) = []
drops_for a p (Err f) = []

-- the word that a hello or a packet goes out in
abbrev pub sent_as : Inner → Option Word → List Sealed
sent_as x None = []
sent_as x (Some w) = as_word x w ∷ []

-- what was put in for it
abbrev pub put_as : Inner → Option Word → List Note
put_as x None = []
put_as x (Some (Hello a e t n)) = []
put_as x (Some (Reply a e t k)) = []
put_as x (Some (Packet p o)) = note p.by p.to p.tags.mine p.tags.theirs p.number x ∷ []
put_as x (Some (Empty p)) = []

-- the answer to a packet that was put in
abbrev pub gone_out : Result (Option Word) Refusal → Option Word
gone_out (Ok w) = w
gone_out (Err f) = None

-- a tag, if a hello was made
abbrev pub drawn_as : ℕ → Option Word → List ℕ
drawn_as t None = []
drawn_as t (Some w) = t ∷ []

module _ (known : ℕ → Option ℕ) where
  -- A WORD IS BROUGHT to gate a: what the code answers decides all that is added.
  abbrev pub hears : (a : ℕ) → Sealed → (tags : List ℕ) → Gateway → Did Gateway
  hears a x ts s =
      record {
        after = took_after (as_code known x) (drawn_of ts) s;
        sent = sent_for (took (as_code known x) (drawn_of ts) s);
        put = [];
        out = out_for a x (took (as_code known x) (drawn_of ts) s);
        drew = drew_for (drawn_of ts) (took (as_code known x) (drawn_of ts) s);
      }

  -- It is a delivery, after a drop where three talks were had; a refusal is a delivery that changes nothing.
  abbrev pub hearing : (a : ℕ) → Sealed → (tags : List ℕ) → Gateway → (place : ℕ) → List Ev
  hearing a x ts s i = Brings a i (drawn_of ts) ∷ drops_for a (peer_at (by_of x) s) (took (as_code known x) (drawn_of ts) s)

  -- SOMETHING IS ASKED of gate a.
  abbrev pub does : (a : ℕ) → Call → Gateway → Did Gateway
  does a Ticks s = record { after = ticked s; sent = []; put = []; out = []; drew = [] }
  does a (Says e t) s =
      record { after = greet_after e t s; sent = sent_as nothing (greet e t s); put = []; out = []; drew = drawn_as t (greet e t s) }
  does a (Sends x) s =
      record {
        after = put_after (known x.from) (known x.to) s;
        sent = sent_as x (gone_out (put (known x.from) (known x.to) s));
        put = put_as x (gone_out (put (known x.from) (known x.to) s));
        out = [];
        drew = [];
      }
  does a Falls s = record { after = restarted s; sent = []; put = []; out = []; drew = [] }

-- The events that it is; a tick that would pass the largest number, and a hello that can't be made, are none.
abbrev pub doing : (a : ℕ) → Call → Gateway → List Ev
doing a Ticks s = cond (nat_lt s.now (2 ^ 64 - 1)) (Tick a ∷ []) []
doing a (Says e t) s = cond (may_greet e t s) (Greets a e t ∷ []) []
doing a (Sends x) s = Puts a x ∷ []
doing a Falls s = Restarts a ∷ []
