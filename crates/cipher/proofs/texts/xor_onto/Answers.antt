use Rattle.std.proofs.Common.{◌∙◌, add-one, arith}
use lib.Bits.{bit_xor}
use Rattle.cipher.proofs.Lists.{over_more, over_all}
use Rattle.cipher.proofs.texts.xor_onto.Goals as goal

pub loop-i-preserved : goal.loop-i-preserved
loop-i-preserved c = rw add-one (cc (over_more bit_xor c.args.part.now c.args.stream.now c.loop-i.i 0 0 (omega arith) (omega arith)))

pub returns : goal.returns
returns c = c.loop-i.invariant ∙ over_all bit_xor c.args.part.now c.args.stream.now _ (omega arith) (omega arith)
