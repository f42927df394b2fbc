-- What each call of a gate answers, and what it leaves in memory. A refusal leaves everything as it was. Assumes nothing.
use Rattle.std.specs.Prelude.{ℕ, ◌+◌, ◌-◌, ◌^◌, min, Bool, true, false, cond, not, ◌&&◌, ◌||◌, List, [], map, replicate, Some, None, Ok, Err, Option, Result, ◌==◌, nat_le, nat_lt, slice_index_or, slice_set}
use Rattle.protocol.specs.declared.refusals.Refusal.{Refusal}
use Rattle.protocol.specs.declared.refusals.Refusal.TheVariants.{WrongGate, ZeroTag, OldHello, UnaskedReply, NoTalk, BelowWindow, RepeatedNumber, ForeignAddress, NoRoute, NoDrawnBytes}
use Rattle.window.specs.declared.state.Verdict.{Verdict}
use Rattle.window.specs.declared.state.Verdict.TheVariants.{Fresh, TooOld, Came}
use Rattle.window.specs.Heard.{look_bits}
use Rattle.gateway.specs.declared.state.Talk.{Talk}
use Rattle.gateway.specs.declared.state.Peer.{Peer}
use Rattle.gateway.specs.declared.state.Gateway.{Gateway}
use Rattle.gateway.specs.declared.state.InTalk.{InTalk}
use Rattle.gateway.specs.declared.state.Owners.{Owners}
use Rattle.gateway.specs.declared.state.Word.{Word}
use Rattle.gateway.specs.declared.state.Word.TheVariants.{Hello, Reply, Packet, Empty}
use Rattle.gateway.specs.declared.state.Taken.{Taken}
use Rattle.gateway.specs.declared.state.Taken.TheVariants.{Answer, Sure, Out, Alive}
use Rattle.gateway.specs.Talks.{tags, fresh_talk, lives, heard_one, sent_one}
use Rattle.gateway.specs.Peers.{unknown, forgotten, talk_named, for_sending, stored, met, is_asked, answered, asked, is_greeted}

-- A gate that was just made, at its first tick.
abbrev pub fresh : (own gates life most : ℕ) → Gateway
fresh own gates life most =
    record { own = own; gates = gates; terms = record { life = life; most = most }; now = 1; fell = 0; peers = replicate 32 unknown }

-- what is read past the last peer
abbrev pub blank : Peer
blank = record { talks = []; waits = []; last_hello = 0 }

-- What is remembered of gate e.
abbrev pub peer_at : ℕ → Gateway → Peer
peer_at e s = slice_index_or s.peers e blank

abbrev pub with_peers : List Peer → Gateway → Gateway
with_peers ps s =
    record { own = s.own; gates = s.gates; terms = s.terms; now = s.now; fell = s.fell; peers = ps }

-- The memory with another memory of gate e.
abbrev pub storing : ℕ → Peer → Gateway → Gateway
storing e p s = with_peers (slice_set s.peers e p) s

-- Gate e is there, and is another one.
abbrev pub is_peer : ℕ → Gateway → Bool
is_peer e s = nat_lt e s.gates && (nat_lt e 32 && not (e == s.own))

-- What is remembered of the maker of a word: refused where that is no other gate, or where the word is not for this one.
abbrev pub maker : (by to : ℕ) → Gateway → Result Peer Refusal
maker by to s = cond (is_peer by s && to == s.own) (Ok (peer_at by s)) (Err WrongGate)

-- a refusal as an answer; or else the answer
abbrev pub answer : {A : Type 0} → Option Refusal → A → Result A Refusal
answer (Some f) x = Err f
answer None x = Ok x

-- a refusal changes nothing; or else the memory after
abbrev pub leaves : Option Refusal → Gateway → Gateway → Gateway
leaves (Some f) s v = s
leaves None s v = v

-- The first fault of a hello, with the tag that is drawn for its reply, 0 where there is none.
abbrev pub hello_fault : (by to tag at drawn : ℕ) → Gateway → Option Refusal
hello_fault by to tag at' drawn s =
    cond
    (is_peer by s && to == s.own)
    (cond (tag == 0) (Some ZeroTag) (cond (nat_le at' (peer_at by s).last_hello) (Some OldHello) (cond (drawn == 0) (Some NoDrawnBytes) None)))
    (Some WrongGate)

-- A hello was taken: a talk of which this gate is not sure, and the hello's tick is the last.
abbrev pub hello_peer : (tag at drawn now : ℕ) → Peer → Peer
hello_peer tag at' drawn now p =
    record { talks = (met (fresh_talk drawn tag now false) p).talks; waits = p.waits; last_hello = at' }

-- The first fault of a reply.
abbrev pub reply_fault : (by to tag answers : ℕ) → Gateway → Option Refusal
reply_fault by to tag answers s =
    cond
    (is_peer by s && to == s.own)
    (cond (tag == 0 || answers == 0) (Some ZeroTag) (cond (is_asked s.now answers (peer_at by s)) None (Some UnaskedReply)))
    (Some WrongGate)

-- A reply was taken: a talk of which this gate is sure, and the hello waits no longer.
abbrev pub reply_peer : (tag answers now : ℕ) → Peer → Peer
reply_peer tag answers now p = met (fresh_talk answers tag now true) (answered answers p)

-- the talk, if its window lets a number come
abbrev pub by_verdict : Verdict → Talk → Result Talk Refusal
by_verdict Fresh t = Ok t
by_verdict TooOld t = Err BelowWindow
by_verdict Came t = Err RepeatedNumber

-- the talk, if it is there and not over, and a number comes in it
abbrev pub found_in : (now life number : ℕ) → Option Talk → Result Talk Refusal
found_in now life n None = Err NoTalk
found_in now life n (Some t) = cond (lives now life t) (by_verdict (look_bits t.window n) t) (Err NoTalk)

-- The talk in which the number of a word comes, or the word's first fault: its gates, its tags, its talk, its number.
abbrev pub found_talk : (by to by_tag to_tag number : ℕ) → Gateway → Result Talk Refusal
found_talk by to m h n s =
    cond
    (is_peer by s && to == s.own)
    (cond (m == 0 || h == 0) (Err ZeroTag) (found_in s.now s.terms.life n (talk_named h m (peer_at by s))))
    (Err WrongGate)

-- the talk, if the addresses are the two gates'
abbrev pub if_owned : Bool → Result Talk Refusal → Result Talk Refusal
if_owned b (Ok t) = cond b (Ok t) (Err ForeignAddress)
if_owned b (Err f) = Err f

-- Gate e is the owner, if there is one.
abbrev pub owns : (e : ℕ) → Option ℕ → Bool
owns e None = false
owns e (Some g) = g == e

-- The talk in which a packet comes, or its first fault: as of any word of a talk; and then its maker must own its source, and this gate its destination.
abbrev pub packet_talk : (by to by_tag to_tag number : ℕ) → (source goal : Option ℕ) → Gateway → Result Talk Refusal
packet_talk by to m h n source goal s = if_owned (owns by source && owns s.own goal) (found_talk by to m h n s)

-- The talk in which a word at a place comes, or its first fault: of any word, and of a packet with these owners.
abbrev pub found : InTalk → Gateway → Result Talk Refusal
found p s = found_talk p.by p.to p.tags.mine p.tags.theirs p.number s

abbrev pub found_for : Owners → InTalk → Gateway → Result Talk Refusal
found_for o p s = packet_talk p.by p.to p.tags.mine p.tags.theirs p.number o.source o.goal s

-- the answer to a word whose talk was found; or the refusal
abbrev pub taken : Taken → Result Talk Refusal → Result Taken Refusal
taken x (Ok t) = Ok x
taken x (Err f) = Err f

-- A word of a talk was taken: its number came.
abbrev pub heard_after : (by number : ℕ) → Gateway → Result Talk Refusal → Gateway
heard_after by n s (Ok t) = storing by (stored (heard_one n t) (peer_at by s)) s
heard_after by n s (Err f) = s

abbrev pub heard : InTalk → Gateway → Result Talk Refusal → Gateway
heard p s x = heard_after p.by p.number s x

-- Where a word of a talk stands; and the owners of a packet's addresses.
abbrev pub in_talk : (by to by_tag to_tag number : ℕ) → InTalk
in_talk by to m h n = record { by = by; to = to; tags = tags m h; number = n }

abbrev pub between : (source goal : Option ℕ) → Owners
between source goal = record { source = source; goal = goal }

-- WHAT A WORD THAT IS BROUGHT IS ANSWERED.
abbrev pub took : Word → (drawn : ℕ) → Gateway → Result Taken Refusal
took (Hello by to tag at') drawn s = answer (hello_fault by to tag at' drawn s) (Answer (Reply s.own by drawn tag))
took (Reply by to tag answers) drawn s = answer (reply_fault by to tag answers s) Sure
took (Packet p o) drawn s = taken Out (found_for o p s)
took (Empty p) drawn s = taken Alive (found p s)

-- WHAT IT LEAVES IN MEMORY.
abbrev pub took_after : Word → (drawn : ℕ) → Gateway → Gateway
took_after (Hello by to tag at') drawn s =
    leaves (hello_fault by to tag at' drawn s) s (storing by (hello_peer tag at' drawn s.now (peer_at by s)) s)
took_after (Reply by to tag answers) drawn s =
    leaves (reply_fault by to tag answers s) s (storing by (reply_peer tag answers s.now (peer_at by s)) s)
took_after (Packet p o) drawn s = heard p s (found_for o p s)
took_after (Empty p) drawn s = heard p s (found p s)

-- The owner of a destination, if there is one, is another gate that is there.
abbrev pub is_goal : Option ℕ → Gateway → Bool
is_goal None s = false
is_goal (Some e) s = is_peer e s

-- The first fault of a packet that is put in, by the owners of its source and its destination.
abbrev pub put_fault : (source goal : Option ℕ) → Gateway → Option Refusal
put_fault source goal s = cond (owns s.own source) (cond (is_goal goal s) None (Some NoRoute)) (Some ForeignAddress)

-- the packet of a talk with gate e under its next number
abbrev pub packet_in : (own : ℕ) → (source : Option ℕ) → (e : ℕ) → Option Talk → Option Word
packet_in own source e None = None
packet_in own source e (Some t) = Some (Packet (in_talk own e t.tags.mine t.tags.theirs (sent_one t).sent) (between source (Some e)))

-- the memory after the next number of a talk with gate e was used
abbrev pub sent_after : (e : ℕ) → Gateway → Option Talk → Gateway
sent_after e s None = s
sent_after e s (Some t) = storing e (stored (sent_one t) (peer_at e s)) s

-- What is sent by, to gate e.
abbrev pub sending : (e : ℕ) → Gateway → Option Talk
sending e s = for_sending s.now s.terms.life s.terms.most (peer_at e s)

-- what goes out to the owner of a destination, and the memory after it; nothing where nobody owns it
abbrev pub packet_for : (source goal : Option ℕ) → Gateway → Option Word
packet_for source None s = None
packet_for source (Some e) s = packet_in s.own source e (sending e s)

abbrev pub sent_for : (goal : Option ℕ) → Gateway → Gateway
sent_for None s = s
sent_for (Some e) s = sent_after e s (sending e s)

-- A PACKET THAT IS PUT IN goes out by the latest talk, if there is one.
abbrev pub put : (source goal : Option ℕ) → Gateway → Result (Option Word) Refusal
put source goal s = answer (put_fault source goal s) (packet_for source goal s)

abbrev pub put_after : (source goal : Option ℕ) → Gateway → Gateway
put_after source goal s = leaves (put_fault source goal s) s (sent_for goal s)

-- A hello to gate e can be made: it is another gate, there is a tag, the tick is above that of the last restart, and none of this tick waits for its reply.
abbrev pub may_greet : (e tag : ℕ) → Gateway → Bool
may_greet e tag s = is_peer e s && (not (tag == 0) && (nat_lt s.fell s.now && not (is_greeted s.now (peer_at e s))))

-- A HELLO IS MADE, if one can be.
abbrev pub greet : (e tag : ℕ) → Gateway → Option Word
greet e tag s = cond (may_greet e tag s) (Some (Hello s.own e tag s.now)) None

abbrev pub greet_after : (e tag : ℕ) → Gateway → Gateway
greet_after e tag s = cond (may_greet e tag s) (storing e (asked tag s.now (peer_at e s)) s) s

-- A TICK PASSES; the clock stays at the largest number.
abbrev pub ticked : Gateway → Gateway
ticked s =
    record { own = s.own; gates = s.gates; terms = s.terms; now = min (s.now + 1) (2 ^ 64 - 1); fell = s.fell; peers = s.peers }

-- THE GATE IS SWITCHED OFF AND ON: it keeps its clock, the tick of this, and the ticks of the last hellos that it took.
abbrev pub restarted : Gateway → Gateway
restarted s =
    record { own = s.own; gates = s.gates; terms = s.terms; now = s.now; fell = s.now; peers = map forgotten s.peers }
