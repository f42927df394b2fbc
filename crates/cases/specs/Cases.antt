-- The worked cases A to G, as one table: two gates are played from row to row. Assumes nothing.
use Rattle.std.specs.Prelude.{◌≡◌, ℕ, true, false, List, [], ◌∷◌, ◌++◌, map, Some, None, Option}
use Rattle.window.specs.declared.state.Window.{Window}
use Rattle.window.specs.Edges.{only}
use Rattle.protocol.specs.declared.refusals.Refusal.TheVariants.{BelowWindow, ForeignAddress, NoTalk, OldHello, RepeatedNumber}
use Rattle.gateway.specs.declared.state.Tags.{Tags}
use Rattle.gateway.specs.declared.state.Talk.{Talk}
use Rattle.gateway.specs.declared.state.Gateway.{Gateway}
use Rattle.gateway.specs.declared.state.Word.{Word}
use Rattle.gateway.specs.declared.state.Word.TheVariants.{Hello, Reply, Packet}
use Rattle.gateway.specs.Steps.{fresh, ticked, peer_at, in_talk, between}
use Rattle.cases.specs.declared.rows.Pair.{Pair}
use Rattle.cases.specs.declared.rows.Side.{Side}
use Rattle.cases.specs.declared.rows.Side.TheVariants.{Zero, One}
use Rattle.cases.specs.declared.rows.Event.{Event}
use Rattle.cases.specs.declared.rows.Event.TheVariants.{Tick, Restart, Greet, Put, Take}
use Rattle.cases.specs.declared.rows.Said.{Said}
use Rattle.cases.specs.declared.rows.Said.TheVariants.{Nothing, Refused, Sends, Sure, Out}
use Rattle.cases.specs.declared.rows.Row.{Row}
use Rattle.cases.specs.Play.{Known, gate_of, after, happened, talks_at}

-- three ticks pass
abbrev pub three_ticks : Gateway → Gateway
three_ticks s = ticked (ticked (ticked s))

-- A gate of three at tick 7; a talk is good for 600 ticks and 1,000 numbers.
abbrev pub at_seven : (own : ℕ) → Gateway
at_seven own = three_ticks (three_ticks (fresh own 3 600 1000))

abbrev pub start : Pair
start = record { gates = at_seven 0 ∷ at_seven 1 ∷ [] }

-- A line of the table: a row, and the talks in memory after it of the gate at which it happens, the latest first.
pub record Line : Type 0 where
  pub row : Row
  pub talks : List Known

abbrev pub row_of : Side → Event → Said → Option Tags → Row
row_of x e s t = record { side = x; event = e; said = s; sure = t }

abbrev pub line : Side → Event → Said → Option Tags → List Known → Line
line x e s t ks = record { row = row_of x e s t; talks = ks }

-- the tags of a talk that a gate is sure of
abbrev pub sure_tags : (mine theirs : ℕ) → Option Tags
sure_tags m h = Some (record { mine = m; theirs = h })

-- a talk of which its gate is sure, and one of which it isn't, with the highest number that came
abbrev pub surely : (mine theirs highest : ℕ) → Known
surely m h n = record { mine = m; theirs = h; sure = true; highest = n }

abbrev pub unsure : (mine theirs highest : ℕ) → Known
unsure m h n = record { mine = m; theirs = h; sure = false; highest = n }

-- The first hello and its reply; one that was said a tick before and held back; and the next one.
abbrev pub hello : Word
hello = Hello 0 1 5 7

abbrev pub reply : Word
reply = Reply 1 0 9 5

abbrev pub held_back : Word
held_back = Hello 0 1 4 6

abbrev pub next_hello : Word
next_hello = Hello 0 1 6 8

abbrev pub next_reply : Word
next_reply = Reply 1 0 10 6

-- The tags of the talk that the first hello makes, as gate 0 has them; and of that of the next one.
abbrev pub first : Tags
first = record { mine = 5; theirs = 9 }

abbrev pub next : Tags
next = record { mine = 6; theirs = 10 }

-- The packets of gate 0's in a talk; and the first one of the next talk, from an address of gate 2's.
abbrev pub packet : Tags → (number : ℕ) → Word
packet t n = Packet (in_talk 0 1 t.mine t.theirs n) (between (Some 0) (Some 1))

abbrev pub foreign : Word
foreign = Packet (in_talk 0 1 6 10 1) (between (Some 2) (Some 1))

-- a word is brought for which no tag has to be drawn
abbrev pub brought : Word → Event
brought w = Take w None

-- a packet is put in at gate 0, for gate 1
abbrev pub given : Event
given = Put (between (Some 0) (Some 1))

-- the rows of lines, which code can see
abbrev pub rows_of : List Line → List Row
rows_of ls = map (λ l. l.row) ls

-- THE TABLE, case by case; each begins where the one before ends.
-- A: both gates have the talk 5 and 9, and gate 0 is sure of it.
abbrev pub case_a : List Line
case_a =
    line Zero (Greet 1 5) (Sends hello) None [] ∷
    line One (Take hello (Some 9)) (Sends reply) None (unsure 9 5 0 ∷ []) ∷
    line Zero (brought reply) Sure (sure_tags 5 9) (surely 5 9 0 ∷ []) ∷
    []

-- B: the hello again, and the one that was held back.
abbrev pub case_b : List Line
case_b =
    line One (Take hello (Some 11)) (Refused OldHello) None (unsure 9 5 0 ∷ []) ∷
    line One (Take held_back (Some 11)) (Refused OldHello) None (unsure 9 5 0 ∷ []) ∷
    []

-- C: number 1 comes out once, and gate 1 is sure.
abbrev pub case_c : List Line
case_c =
    line Zero given (Sends (packet first 1)) (sure_tags 5 9) (surely 5 9 0 ∷ []) ∷
    line One (brought (packet first 1)) Out (sure_tags 9 5) (surely 9 5 1 ∷ []) ∷
    line One (brought (packet first 1)) (Refused RepeatedNumber) (sure_tags 9 5) (surely 9 5 1 ∷ []) ∷
    []

-- D: the highest is 3,000.
abbrev pub case_d : List Line
case_d =
    line One (brought (packet first 3000)) Out (sure_tags 9 5) (surely 9 5 3000 ∷ []) ∷
    line One (brought (packet first 952)) (Refused BelowWindow) (sure_tags 9 5) (surely 9 5 3000 ∷ []) ∷
    line One (brought (packet first 953)) Out (sure_tags 9 5) (surely 9 5 3000 ∷ []) ∷
    []

-- E: gate 1 restarts and has no talk, but has kept the tick of the last hello; the next hello makes a new talk.
abbrev pub case_e : List Line
case_e =
    line One Restart Nothing None [] ∷
    line One (brought (packet first 1)) (Refused NoTalk) None [] ∷
    line Zero given (Sends (packet first 2)) (sure_tags 5 9) (surely 5 9 0 ∷ []) ∷
    line One (brought (packet first 2)) (Refused NoTalk) None [] ∷
    line One (Take hello (Some 11)) (Refused OldHello) None [] ∷
    line Zero Tick Nothing (sure_tags 5 9) (surely 5 9 0 ∷ []) ∷
    line Zero (Greet 1 6) (Sends next_hello) (sure_tags 5 9) (surely 5 9 0 ∷ []) ∷
    line One (Take next_hello (Some 10)) (Sends next_reply) None (unsure 10 6 0 ∷ []) ∷
    line Zero (brought next_reply) Sure (sure_tags 6 10) (surely 6 10 0 ∷ surely 5 9 0 ∷ []) ∷
    line One (brought (packet first 2)) (Refused NoTalk) None (unsure 10 6 0 ∷ []) ∷
    []

-- F: what is refused for its address moves nothing: its number comes.
abbrev pub case_f : List Line
case_f =
    line One (brought foreign) (Refused ForeignAddress) None (unsure 10 6 0 ∷ []) ∷
    line Zero given (Sends (packet next 1)) (sure_tags 6 10) (surely 6 10 0 ∷ surely 5 9 0 ∷ []) ∷
    line One (brought (packet next 1)) Out (sure_tags 10 6) (surely 10 6 1 ∷ []) ∷
    []

-- G: the highest is 1, then 5,000.
abbrev pub case_g : List Line
case_g =
    line One (brought (packet next 5000)) Out (sure_tags 10 6) (surely 10 6 5000 ∷ []) ∷
    line One (brought (packet next 2)) (Refused BelowWindow) (sure_tags 10 6) (surely 10 6 5000 ∷ []) ∷
    []

abbrev pub lines : List Line
lines = case_a ++ case_b ++ case_c ++ case_d ++ case_e ++ case_f ++ case_g

-- The table filled in, row by row, as the two gates do it.
unfoldable pub played : List Line → Pair → List Line
played [] p = []
played (l ∷ ls) p =
    record { row = happened l.row p; talks = talks_at l.row.side (after l.row p) } ∷ played ls (after l.row p)

-- The two gates after all rows.
unfoldable pub end : List Line → Pair → Pair
end [] p = p
end (l ∷ ls) p = end ls (after l.row p)

-- the window of the first talk in places of memory
abbrev pub window_in : List (Option Talk) → Option Window
window_in [] = None
window_in (None ∷ ts) = window_in ts
window_in (Some t ∷ ts) = Some t.window

-- the window of the latest talk of gate 1 with gate 0
abbrev pub window_at : Pair → Option Window
window_at p = window_in (peer_at 0 (gate_of One p)).talks

-- THE WORKED CASES HOLD.
pub record Cases : Type 0 where
  -- the gates' calls fill the table in as it stands: each answer, the talk that would be sent by, and the talks in memory
  pub table : played lines start ≡ lines
  -- after G no bit of the ring is set but that of 5,000
  pub ring : window_at (end lines start) ≡ Some (only 5000)
