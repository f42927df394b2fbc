-- What each event does to a gate that keeps its tick, its drawn bytes and its counts. Assumes nothing.
use Rattle.std.specs.Prelude.{ℕ, ◌+◌, ◌-◌, ◌^◌, min, List, [], ◌++◌, Ok, Err, Result}
use Rattle.protocol.specs.declared.counting.Counts.{Counts}
use Rattle.protocol.specs.declared.kinds.Kind.{Kind}
use Rattle.protocol.specs.declared.refusals.Refusal.{Refusal}
use Rattle.protocol.specs.Counting.{counted}
use Rattle.protocol.specs.Kinds.{kind_of}
use Rattle.lines.specs.Reading.{Said}
use Rattle.lines.specs.Reading.Said.{ticks, drawn, packet, word, falls}
use Rattle.gate.specs.declared.state.Answer.{Answer}
use Rattle.gate.specs.declared.state.Answer.TheVariants.{Done, Refused, NotYet}
use Rattle.gate.specs.declared.state.Missing.TheVariants.{Words, Packets}

-- what becomes of a word: refused where its kind or length is unknown
abbrev pub answer_to_word : Result Kind Refusal → Answer
answer_to_word (Ok kind) = NotYet Words
answer_to_word (Err refusal) = Refused refusal

-- what becomes of an event
abbrev pub answer_to : Said → Answer
answer_to ticks = Done
answer_to (drawn bytes) = Done
answer_to (packet bytes) = NotYet Packets
answer_to (word bytes) = answer_to_word (kind_of bytes)
answer_to falls = Done

-- the tick goes on by one at a tick, and stays at the largest number; a restart keeps it
abbrev pub tick_after : Said → ℕ → ℕ
tick_after ticks t = min (t + 1) (2 ^ 64 - 1)
tick_after (drawn bytes) t = t
tick_after (packet bytes) t = t
tick_after (word bytes) t = t
tick_after falls t = t

-- drawn bytes are added at the end of the supply, and gone after a restart
abbrev pub drawn_after : Said → List ℕ → List ℕ
drawn_after ticks supply = supply
drawn_after (drawn bytes) supply = supply ++ bytes
drawn_after (packet bytes) supply = supply
drawn_after (word bytes) supply = supply
drawn_after falls supply = []

-- a word that is refused is counted
abbrev pub refused_after_word : Result Kind Refusal → Counts → Counts
refused_after_word (Ok kind) counts = counts
refused_after_word (Err refusal) counts = counted refusal counts

-- the counts go on over a restart
abbrev pub refused_after : Said → Counts → Counts
refused_after ticks counts = counts
refused_after (drawn bytes) counts = counts
refused_after (packet bytes) counts = counts
refused_after (word bytes) counts = refused_after_word (kind_of bytes) counts
refused_after falls counts = counts

-- only drawn bytes want memory
abbrev pub Draws : Said → Type 0
Draws ticks = ⊥
Draws (drawn bytes) = Unit {0}
Draws (packet bytes) = ⊥
Draws (word bytes) = ⊥
Draws falls = ⊥
