use mathlib.Core.Path.{◌≡◌}
use Rattle.sha.specs.Sha256.{block_words}
use Rattle.sha.proofs.blocks.load.Given as goal

abbrev pub invariant-loop-t : goal.invariant-loop-t
invariant-loop-t l = l.w ≡ block_words l.t l.block
