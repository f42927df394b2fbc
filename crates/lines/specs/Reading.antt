-- Which bytes are which event's line. Assumes nothing.
use Rattle.std.specs.Prelude.{◌≡◌, ℕ, ◌+◌, cond, ◌⊎◌, List, [], ◌∷◌, length, drop, Some, None, Ok, Err, vec_items, Option, Result, nat_le}
use Rattle.std.specs.Char.{is_ascii_whitespace}
use Rattle.lines.specs.declared.events.Event.{Event}
use Rattle.lines.specs.declared.events.Event.TheVariants as event
use Rattle.lines.specs.declared.faults.LineFault.{LineFault}
use Rattle.lines.specs.declared.faults.LineFault.TheVariants.{EmptyLine, UnknownEvent, NotAlone, NothingDrawn, NoMemory}
use Rattle.lines.specs.declared.names.Name.{Name}
use Rattle.lines.specs.declared.names.Name.TheVariants.{Tick, Drawn, Packet, Word, Fall}
use Rattle.lines.specs.Hex.{decoded}
use Rattle.lines.specs.Names.{find_name}

-- what a line says, with its bytes as a list
pub data Said : Type 0 where
  ticks : Said
  drawn : List ℕ → Said
  packet : List ℕ → Said
  word : List ℕ → Said
  falls : Said

-- what an event says
abbrev pub said : Event → Said
said event.Tick = ticks
said (event.Drawn bytes) = drawn (vec_items bytes)
said (event.Packet bytes) = packet (vec_items bytes)
said (event.Word bytes) = word (vec_items bytes)
said event.Fall = falls

-- a byte before what is left of a trimmed list
abbrev pub before : ℕ → List ℕ → List ℕ
before b [] = cond (is_ascii_whitespace b) [] (b ∷ [])
before b (c ∷ cs) = b ∷ c ∷ cs

-- bytes without the blanks at their end: space, tab, line feed, form feed, carriage return
abbrev pub trim_end : List ℕ → List ℕ
trim_end [] = []
trim_end (b ∷ bs) = before b (trim_end bs)

-- bytes that were read, as what they say
abbrev pub with : (List ℕ → Said) → Result (List ℕ) LineFault → Result Said LineFault
with says (Ok bytes) = Ok (says bytes)
with says (Err fault) = Err fault

-- the bytes that the hex digits of a line from a place on stand for
abbrev pub hex_from : List ℕ → ℕ → Result (List ℕ) LineFault
hex_from line at = decoded (at + 1) (drop at line)

-- what a line with this name says, where what follows the name begins at a place
abbrev pub says_named : List ℕ → Name → ℕ → Result Said LineFault
says_named line Tick at = cond (nat_le (length line) at) (Ok ticks) (Err NotAlone)
says_named line Drawn at = cond (nat_le (length line) at) (Err NothingDrawn) (with drawn (hex_from line at))
says_named line Packet at = with packet (hex_from line at)
says_named line Word at = with word (hex_from line at)
says_named line Fall at = cond (nat_le (length line) at) (Ok falls) (Err NotAlone)

-- what a line says by the name that was found on it
abbrev pub says_found : List ℕ → Option (Name × ℕ) → Result Said LineFault
says_found line None = Err UnknownEvent
says_found line (Some (name, at)) = says_named line name at

-- what a trimmed line says, or what is wrong with it
abbrev pub line_says : List ℕ → Result Said LineFault
line_says [] = Err EmptyLine
line_says (b ∷ bs) = says_found (b ∷ bs) (find_name (b ∷ bs))

-- an answer is what is meant, unless there was no memory
abbrev pub Reads : Result Said LineFault → Result Event LineFault → Type 0
Reads meant (Ok e) = meant ≡ Ok (said e)
Reads meant (Err fault) = (fault ≡ NoMemory) ⊎ (meant ≡ Err fault)
