-- What a row's event is answered and leaves, by the definitions of a gate's calls. Assumes nothing.
use Rattle.std.specs.Prelude.{ℕ, Bool, List, [], ◌∷◌, Some, None, Ok, Err, Option, Result, slice_index_or, slice_set}
use Rattle.std.specs.Option.{unwrap_or}
use Rattle.protocol.specs.declared.refusals.Refusal.{Refusal}
use Rattle.gateway.specs.declared.state.Tags.{Tags}
use Rattle.gateway.specs.declared.state.Talk.{Talk}
use Rattle.gateway.specs.declared.state.Gateway.{Gateway}
use Rattle.gateway.specs.declared.state.Word.{Word}
use Rattle.gateway.specs.declared.state.Word.TheVariants.{Hello, Reply, Packet, Empty}
use Rattle.gateway.specs.declared.state.Taken.{Taken}
use Rattle.gateway.specs.declared.state.Taken.TheVariants.{Answer, Sure as Surely, Out as Outside, Alive as Living}
use Rattle.gateway.specs.Steps.{fresh, took, took_after, put, put_after, greet, greet_after, ticked, restarted, peer_at}
use Rattle.cases.specs.declared.rows.Pair.{Pair}
use Rattle.cases.specs.declared.rows.Side.{Side}
use Rattle.cases.specs.declared.rows.Side.TheVariants.{Zero, One}
use Rattle.cases.specs.declared.rows.Event.{Event}
use Rattle.cases.specs.declared.rows.Event.TheVariants.{Tick, Restart, Greet, Put, Take}
use Rattle.cases.specs.declared.rows.Said.{Said}
use Rattle.cases.specs.declared.rows.Said.TheVariants.{Nothing, Refused, Sends, Sure, Out, Alive}
use Rattle.cases.specs.declared.rows.Row.{Row}

-- a word that goes out, if there is one
abbrev pub says_word : Option Word → Said
says_word None = Nothing
says_word (Some w) = Sends w

-- what is said of a word that was taken
abbrev pub says_taken : Taken → Said
says_taken (Answer w) = Sends w
says_taken Surely = Sure
says_taken Outside = Out
says_taken Living = Alive

-- an answer of a call
abbrev pub says_took : Result Taken Refusal → Said
says_took (Ok x) = says_taken x
says_took (Err f) = Refused f

abbrev pub says_put : Result (Option Word) Refusal → Said
says_put (Ok w) = says_word w
says_put (Err f) = Refused f

-- WHAT A GATE SAYS TO AN EVENT.
abbrev pub says : Event → Gateway → Said
says Tick s = Nothing
says Restart s = Nothing
says (Greet e tag) s = says_word (greet e tag s)
says (Put o) s = says_put (put o.source o.goal s)
says (Take w drawn) s = says_took (took w (unwrap_or drawn 0) s)

-- WHAT IT LEAVES IN MEMORY.
abbrev pub leaves : Event → Gateway → Gateway
leaves Tick s = ticked s
leaves Restart s = restarted s
leaves (Greet e tag) s = greet_after e tag s
leaves (Put o) s = put_after o.source o.goal s
leaves (Take w drawn) s = took_after w (unwrap_or drawn 0) s

-- the two tags of a packet's talk
abbrev pub tags_of : Said → Option Tags
tags_of (Sends (Packet p o)) = Some p.tags
tags_of (Sends (Hello by to tag at')) = None
tags_of (Sends (Reply by to tag answers)) = None
tags_of (Sends (Empty p)) = None
tags_of Nothing = None
tags_of (Refused f) = None
tags_of Sure = None
tags_of Out = None
tags_of Alive = None

-- The talk by which a gate would send to another, if it is sure of any.
abbrev pub sure_of : (own other : ℕ) → Gateway → Option Tags
sure_of own other s = tags_of (says_put (put (Some own) (Some other) s))

-- the numbers of the gate on a side, and of the other
abbrev pub own_of : Side → ℕ
own_of Zero = 0
own_of One = 1

abbrev pub other_of : Side → ℕ
other_of Zero = 1
other_of One = 0

-- the gate on a side; past the two gates one of which nothing is known is read
abbrev pub gate_of : Side → Pair → Gateway
gate_of x p = slice_index_or p.gates (own_of x) (fresh 0 0 0 0)

abbrev pub with_gate : Side → Gateway → Pair → Pair
with_gate x s p = record { gates = slice_set p.gates (own_of x) s }

-- The two gates after a row.
abbrev pub after : Row → Pair → Pair
after r p = with_gate r.side (leaves r.event (gate_of r.side p)) p

-- A row as it happens: what is done, with what is said to it and what the gate is sure of then.
abbrev pub happened : Row → Pair → Row
happened r p =
    record {
      side = r.side;
      event = r.event;
      said = says r.event (gate_of r.side p);
      sure = sure_of (own_of r.side) (other_of r.side) (leaves r.event (gate_of r.side p));
    }

-- A talk in memory: its tags, whether its gate is sure of it, and the highest number that came.
pub record Known : Type 0 where
  pub mine : ℕ
  pub theirs : ℕ
  pub sure : Bool
  pub highest : ℕ

abbrev pub known : Talk → Known
known t = record { mine = t.tags.mine; theirs = t.tags.theirs; sure = t.sure; highest = t.window.top }

-- the talks that stand in places of memory, the latest first
abbrev pub known_in : List (Option Talk) → List Known
known_in [] = []
known_in (None ∷ ts) = known_in ts
known_in (Some t ∷ ts) = known t ∷ known_in ts

-- The talks of the gate on a side with the other one.
abbrev pub talks_at : Side → Pair → List Known
talks_at x p = known_in (peer_at (other_of x) (gate_of x p)).talks
