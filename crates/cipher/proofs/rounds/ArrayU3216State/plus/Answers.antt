use Rattle.std.proofs.Common.{◌∙◌, add-one, arith}
use Rattle.cipher.specs.ChaCha20.{add32}
use Rattle.cipher.proofs.Lists.{over_more, over_all}
use Rattle.cipher.proofs.rounds.ArrayU3216State.plus.Goals as goal

pub loop-i-preserved : goal.loop-i-preserved
unfolding add32
loop-i-preserved c = rw add-one (cc (over_more add32 c.args.self c.args.start c.loop-i.i 0 0 (omega arith) (omega arith)))

pub returns : goal.returns
returns c = c.loop-i.invariant ∙ over_all add32 c.args.self c.args.start _ (omega arith) (omega arith)
