use Rattle.std.proofs.Common.{◌∙◌}
use Rattle.cipher.proofs.Iterates.{iterate_block}
use Rattle.cipher.proofs.blocks.mix.Goals as goal

pub returns : goal.returns
returns c = c.rounds.ensures ∙ iterate_block 10 c.args.s.now
