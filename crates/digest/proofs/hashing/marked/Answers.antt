use Rattle.std.proofs.Common.{length, ap, ◌∙◌, arith}
use Rattle.std.proofs.lemmas.List.{length-take-le}
use Rattle.digest.proofs.Padding.{marked_is}
use Rattle.digest.proofs.hashing.marked.Goals as goal

pub returns : goal.returns
returns c = marked_is c.copy_from_slice.new.self c.args.block.now c.args.fill c.requires c.copy_from_slice.ensures.after (ap length c.copy_from_slice.ensures.after ∙ length-take-le c.args.fill c.args.block.now (omega arith))
