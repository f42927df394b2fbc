use Rattle.std.proofs.Common.{◌∙◌, arith}
use Rattle.digest.proofs.Padding.{ended_with, length-bytes}
use Rattle.digest.proofs.hashing.with_length.Goals as goal

pub returns : goal.returns
returns c =
    ended_with c.args.block c.copy_from_slice.new.self _ (omega arith)
    (c.copy_from_slice.ensures.after ∙ c.to_be_bytes.ensures ∙ length-bytes c.args.total c.bits.result c.bits.ensures)
