use Rattle.std.proofs.Common.{◌≡◌, take}
use Rattle.refinement.specs.Sea.{plays, books_of}
use Rattle.refinement.proofs.state.Sea.play.Given as goal

abbrev pub invariant-loop-played : goal.invariant-loop-played
invariant-loop-played l = books_of l.self ≡ plays l.owners (take l.played l.events) (books_of l.initial.self)
