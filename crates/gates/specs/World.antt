-- Any number of gates, a net that keeps every word for ever and brings any of them to anybody, and everything that can happen to them.
-- Sealing is taken for granted here: a word says truly who made it and for whom. Assumes nothing else.
use Rattle.std.specs.Prelude.{ℕ, zero, suc, ◌+◌, Bool, true, false, cond, not, ◌&&◌, ◌||◌, List, [], ◌∷◌, ◌++◌, ◌==◌, nat_le, nat_lt}
use Rattle.gates.specs.Talk.{Inner, Rules, Talk, is_in, new_talk, may_come, came, may_send, sent_one}

-- What goes over the net (a datagram), sealed by its maker for another gate.
pub data Word : Type 0 where
  -- a wish for a talk: a tag drawn for it, and the maker's tick
  Hello : (by for' tag at : ℕ) → Word
  -- a talk granted: a tag drawn for it, and the tag of the hello that it answers
  Reply : (by for' tag tag_for : ℕ) → Word
  -- a packet in a talk, which both tags name, with its number there
  Packet : (by for' by_tag for_tag number : ℕ) → Inner → Word
  -- a keepalive in a talk: numbered like a packet, with nothing in it
  Empty : (by for' by_tag for_tag number : ℕ) → Word

-- A hello that waits for its reply: for whom, under which tag, and since which tick.
pub record Wait : Type 0 where
  pub for' : ℕ
  pub tag : ℕ
  pub at : ℕ

-- A gate. talks: its talks, the latest first; waits: its hellos that wait; last_hello: for each other gate the tick of the last hello taken from it, 0 before the first.
pub record Gate : Type 0 where
  pub talks : List Talk
  pub waits : List Wait
  pub last_hello : ℕ → ℕ

-- What was put in or came out: at which gate, in a talk with which other gate, by both tags, under which number, and the packet itself.
pub record Note : Type 0 where
  pub gate : ℕ
  pub other : ℕ
  pub gate_tag : ℕ
  pub other_tag : ℕ
  pub number : ℕ
  pub inner : Inner

-- Everything. now: each gate's own clock; gates: their memories; net: all words ever made; put, out: all that was put in and came out;
-- drawn: all tags ever drawn. Each list has the latest first.
pub record World : Type 0 where
  pub now : ℕ → ℕ
  pub gates : ℕ → Gate
  pub net : List Word
  pub put : List Note
  pub out : List Note
  pub drawn : List ℕ

-- What can happen.
pub data Ev : Type 0 where
  -- gate a's clock moves on by one tick
  Tick : (a : ℕ) → Ev
  -- gate a makes a hello for gate e under a drawn tag
  Greets : (a e tag : ℕ) → Ev
  -- a packet is put in at gate a
  Puts : (a : ℕ) → Inner → Ev
  -- somebody who holds gate a's keys seals a packet for gate e that need not be a's to send
  Lies : (a e : ℕ) → Inner → Ev
  -- a word of the net, by its place there, is brought to a gate, which has this tag to draw should it reply
  Brings : (to which tag : ℕ) → Ev
  -- gate a is switched off and on
  Restarts : (a : ℕ) → Ev
  -- gate a forgets its talk with this own tag
  Drops : (a tag : ℕ) → Ev
  -- gate a sends a keepalive in its talk with this own tag
  Stays : (a tag : ℕ) → Ev

-- a function with another value at one place
abbrev pub changed : {A : Type 0} → ℕ → A → (ℕ → A) → ℕ → A
changed a x f j = cond (j == a) x (f j)

-- A gate before anything happened.
abbrev pub empty_gate : Gate
empty_gate = record { talks = []; waits = []; last_hello = λ a. 0 }

-- The world before anything happened; clocks begin with 1, so that a first hello is above 0.
abbrev pub start : World
start = record { now = λ a. 1; gates = λ a. empty_gate; net = []; put = []; out = []; drawn = [] }

-- A tag that may be drawn: it is not 0, and was never drawn.
abbrev pub is_new : ℕ → World → Bool
is_new t w = not (is_in t w.drawn) && not (t == 0)

-- A talk that may be there.
pub data Found : Type 0 where
  NoTalk : Found
  This : Talk → Found

-- the latest talk with gate e that may be used to send
unfoldable pub for_sending : Rules → (now e : ℕ) → List Talk → Found
for_sending r now e [] = NoTalk
for_sending r now e (t ∷ ts) = cond (t.with' == e && may_send r now t) (This t) (for_sending r now e ts)

-- the talk with this own tag
unfoldable pub by_mine : ℕ → List Talk → Found
by_mine m [] = NoTalk
by_mine m (t ∷ ts) = cond (t.mine == m) (This t) (by_mine m ts)

-- whether a talk is the one with gate a that these two tags name
abbrev pub is_talk : (a mine theirs : ℕ) → Talk → Bool
is_talk a m h t = t.with' == a && (t.mine == m && t.theirs == h)

-- whether a number may come in the talk with gate a that these two tags name; no, where there is none
unfoldable pub comes_in : Rules → (now a mine theirs n : ℕ) → List Talk → Bool
comes_in r now a m h n [] = false
comes_in r now a m h n (t ∷ ts) = cond (is_talk a m h t) (may_come r now n t) (comes_in r now a m h n ts)

-- the talk with this own tag changed
unfoldable pub change : ℕ → (Talk → Talk) → List Talk → List Talk
change m f [] = []
change m f (t ∷ ts) = cond (t.mine == m) (f t ∷ ts) (t ∷ change m f ts)

-- the talks but the one with this own tag
unfoldable pub without_talk : ℕ → List Talk → List Talk
without_talk m [] = []
without_talk m (t ∷ ts) = cond (t.mine == m) (without_talk m ts) (t ∷ without_talk m ts)

-- whether a hello to gate e under this tag waits, which it does for 5 ticks
unfoldable pub waits_for : (now e tag : ℕ) → List Wait → Bool
waits_for now e t [] = false
waits_for now e t (x ∷ xs) = (x.for' == e && (x.tag == t && nat_le now (x.at + 5))) || waits_for now e t xs

-- the hellos that wait but the one with this tag
unfoldable pub without_wait : ℕ → List Wait → List Wait
without_wait t [] = []
without_wait t (x ∷ xs) = cond (x.tag == t) (without_wait t xs) (x ∷ without_wait t xs)

abbrev pub with_talks : List Talk → Gate → Gate
with_talks ts g = record { talks = ts; waits = g.waits; last_hello = g.last_hello }

abbrev pub note : (gate other gate_tag other_tag number : ℕ) → Inner → Note
note a e m h n x = record { gate = a; other = e; gate_tag = m; other_tag = h; number = n; inner = x }

-- gate a's memory is replaced; these words, under these drawn tags, go out
abbrev pub becomes : ℕ → Gate → List Word → List ℕ → World → World
becomes a g ws ts w =
    record { now = w.now; gates = changed a g w.gates; net = ws ++ w.net; put = w.put; out = w.out; drawn = ts ++ w.drawn }

-- gate a uses the next number of its talk t for a word; what was put in for it is noted
abbrev pub emits : ℕ → Talk → Word → List Note → World → World
emits a t x ps w =
    record {
      now = w.now;
      gates = changed a (with_talks (change t.mine sent_one (w.gates a).talks) (w.gates a)) w.gates;
      net = x ∷ w.net;
      put = ps ++ w.put;
      out = w.out;
      drawn = w.drawn;
    }

-- a number came at gate e in the talk with this own tag; what comes out for it is noted
abbrev pub hears : (e mine n : ℕ) → List Note → World → World
hears e m n os w =
    record {
      now = w.now;
      gates = changed e (with_talks (change m (came n) (w.gates e).talks) (w.gates e)) w.gates;
      net = w.net;
      put = w.put;
      out = os ++ w.out;
      drawn = w.drawn;
    }

-- WHEN A WORD IS TAKEN by gate e, to which it is brought, with this tag to draw for a reply. A hello: it is for e, its tick is above that of the last one
-- taken from its maker, and the tag is new. A reply: it is for e and answers a hello that waits. A packet: it is for e, its number may come in its talk,
-- its maker owns its source, and e owns its destination. A keepalive: it is for e, and its number may come in its talk.
abbrev pub takes : Rules → (e new : ℕ) → Word → World → Bool
takes r e new (Hello a f tag at') w = f == e && (nat_lt ((w.gates e).last_hello a) at' && is_new new w)
takes r e new (Reply a f tag tag_for) w = f == e && waits_for (w.now e) a tag_for (w.gates e).waits
takes r e new (Packet a f by_tag for_tag n x) w =
    (f == e) && (comes_in r (w.now e) a for_tag by_tag n (w.gates e).talks && (r.owner x.from == a && r.owner x.to == e))
takes r e new (Empty a f by_tag for_tag n) w = f == e && comes_in r (w.now e) a for_tag by_tag n (w.gates e).talks

-- What taking a word does. A hello: a talk of which e is not sure, and a reply. A reply: a talk of which e is sure, and the hello waits no longer.
-- A packet: its number came, and it comes out. A keepalive: its number came.
abbrev pub taken : (e new : ℕ) → Word → World → World
taken e new (Hello a f tag at') w =
    becomes
    e
    (record {
      talks = new_talk a new tag (w.now e) false ∷ (w.gates e).talks;
      waits = (w.gates e).waits;
      last_hello = changed a at' (w.gates e).last_hello;
    })
    (Reply e a new tag ∷ [])
    (new ∷ [])
    w
taken e new (Reply a f tag tag_for) w =
    becomes
    e
    (record {
      talks = new_talk a tag_for tag (w.now e) true ∷ (w.gates e).talks;
      waits = without_wait tag_for (w.gates e).waits;
      last_hello = (w.gates e).last_hello;
    })
    []
    []
    w
taken e new (Packet a f by_tag for_tag n x) w = hears e for_tag n (note e a for_tag by_tag n x ∷ []) w
taken e new (Empty a f by_tag for_tag n) w = hears e for_tag n [] w

-- A word is brought to gate e: taken, or the whole world stays as it was.
abbrev pub brings : Rules → (e new : ℕ) → Word → World → World
brings r e new x w = cond (takes r e new x w) (taken e new x w) w

-- the word at a place of the net is brought; nothing happens where there is none
unfoldable pub brings_nth : Rules → (e i new : ℕ) → List Word → World → World
brings_nth r e i new [] w = w
brings_nth r e zero new (x ∷ xs) w = brings r e new x w
brings_nth r e (suc i) new (x ∷ xs) w = brings_nth r e i new xs w

-- A packet goes out of gate a in a talk, under its next number; nothing happens where there is no talk.
abbrev pub sends : ℕ → Inner → Found → World → World
sends a x NoTalk w = w
sends a x (This t) w =
    emits
    a
    t
    (Packet a t.with' t.mine t.theirs (suc t.sent) x)
    (note a t.with' t.mine t.theirs (suc t.sent) x ∷ [])
    w

-- A keepalive goes out of gate a in a talk, under its next number, if the talk may be used to send.
abbrev pub stays : Rules → ℕ → Found → World → World
stays r a NoTalk w = w
stays r a (This t) w =
    cond (may_send r (w.now a) t) (emits a t (Empty a t.with' t.mine t.theirs (suc t.sent)) [] w) w

-- What each event does. A packet that is put in must come from an address of the gate's own and go to another gate's; who lies looks at neither.
-- A restart leaves a gate its clock and the ticks of the hellos that it took, and nothing else.
abbrev pub step : Rules → Ev → World → World
step r (Tick a) w =
    record { now = changed a (suc (w.now a)) w.now; gates = w.gates; net = w.net; put = w.put; out = w.out; drawn = w.drawn }
step r (Greets a e t) w =
    cond
    (is_new t w && not (a == e))
    (becomes
    a
    (record {
      talks = (w.gates a).talks;
      waits = record { for' = e; tag = t; at = w.now a } ∷ (w.gates a).waits;
      last_hello = (w.gates a).last_hello;
    })
    (Hello a e t (w.now a) ∷ [])
    (t ∷ [])
    w)
    w
step r (Puts a x) w =
    cond
    (r.owner x.from == a && not (r.owner x.to == a))
    (sends a x (for_sending r (w.now a) (r.owner x.to) (w.gates a).talks) w)
    w
step r (Lies a e x) w = sends a x (for_sending r (w.now a) e (w.gates a).talks) w
step r (Brings e i t) w = brings_nth r e i t w.net w
step r (Restarts a) w = becomes a (record { talks = []; waits = []; last_hello = (w.gates a).last_hello }) [] [] w
step r (Drops a m) w = becomes a (with_talks (without_talk m (w.gates a).talks) (w.gates a)) [] [] w
step r (Stays a m) w = stays r a (by_mine m (w.gates a).talks) w

-- The world after a list of events, the latest first.
unfoldable pub world : Rules → List Ev → World
world r [] = start
world r (e ∷ es) = step r e (world r es)
