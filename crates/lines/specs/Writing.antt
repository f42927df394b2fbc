-- The line of each event, and that it says that event. Assumes nothing.
use Rattle.std.specs.Prelude.{◌≡◌, ℕ, ◌<◌, List, ◌∷◌, ◌++◌, length, Ok, codes}
use Rattle.std.specs.List.{AllByRecursion}
use Rattle.lines.specs.Hex.{encoded}
use Rattle.lines.specs.Reading.{Said, line_says, trim_end}
use Rattle.lines.specs.Reading.Said.{ticks, drawn, packet, word, falls}

-- a name, one space, and bytes as hex digits
abbrev pub name_and_bytes : List ℕ → List ℕ → List ℕ
name_and_bytes name bytes = name ++ 32 ∷ encoded bytes

-- the line of an event
abbrev pub line_of : Said → List ℕ
line_of ticks = codes "tick"
line_of (drawn bytes) = name_and_bytes (codes "drawn") bytes
line_of (packet bytes) = name_and_bytes (codes "packet") bytes
line_of (word bytes) = name_and_bytes (codes "word") bytes
line_of falls = codes "fall"

-- bytes are below 256
abbrev pub Bytes : List ℕ → Type 0
Bytes bs = AllByRecursion (λ b. b < 256) bs

-- what can be said: bytes are bytes, and some are drawn
abbrev pub Sayable : Said → Type 0
Sayable ticks = Unit {0}
Sayable (drawn bytes) = (0 < length bytes) × Bytes bytes
Sayable (packet bytes) = Bytes bytes
Sayable (word bytes) = Bytes bytes
Sayable falls = Unit {0}

-- every event has a line that says it
abbrev pub EveryEventHasItsLine : Type 0
EveryEventHasItsLine = (s : Said) → Sayable s → line_says (trim_end (line_of s)) ≡ Ok s
