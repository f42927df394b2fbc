use Rattle.draft.specs.Reading.{draft_read}
use Rattle.draft.proofs.Lines.{Rest}
use Rattle.draft.proofs.reading.read.Given as goal

abbrev pub invariant-loop-before : goal.invariant-loop-before
invariant-loop-before l = Rest (goal.iterator-loop-before).next_gives (λ x. x.now) l.before-iterator l.draft (draft_read l.text)
