-- What a line of input does to a gate. Assumes nothing.
use Rattle.std.specs.Prelude.{◌≡◌, ◌⊎◌, Ok, Err, vec_items, Result}
use Rattle.lines.specs.Reading.{Said}
use Rattle.lines.specs.declared.faults.LineFault.{LineFault}
use Rattle.lines.specs.declared.faults.LineFault.TheVariants.{NoMemory}
use Rattle.gate.specs.declared.state.Answer.{Answer}
use Rattle.gate.specs.declared.state.Gate.{Gate}
use Rattle.gate.specs.Events.{answer_to, tick_after, drawn_after, refused_after}

-- an event was done: the answer, and all that a gate keeps
pub record Does (s : Said) (before after : Gate) (answer : Answer) : Type 0 where
  pub answers : answer ≡ answer_to s
  pub ticks : after.tick ≡ tick_after s before.tick
  pub draws : vec_items after.drawn ≡ drawn_after s (vec_items before.drawn)
  pub counts : after.refused ≡ refused_after s before.refused

-- nothing was done: all that a gate keeps is as it was
pub record Stays (before after : Gate) : Type 0 where
  pub ticks : after.tick ≡ before.tick
  pub draws : vec_items after.drawn ≡ vec_items before.drawn
  pub counts : after.refused ≡ before.refused

-- a line does the event that it says; one that says none, or finds no memory, does nothing
abbrev pub TakesLine : Result Said LineFault → Gate → Gate → Result Answer LineFault → Type 0
TakesLine meant before after (Ok answer) = (s : Said) × (meant ≡ Ok s) × Does s before after answer
TakesLine meant before after (Err fault) = ((fault ≡ NoMemory) ⊎ (meant ≡ Err fault)) × Stays before after
