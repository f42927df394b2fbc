use Rattle.std.proofs.Common.{◌+◌, ◌*◌, refl, ◌∙◌, arith}
use Rattle.cipher.specs.ChaCha20.{encrypt}
use Rattle.cipher.proofs.Streams.{part_turned, all_turned}
use Rattle.cipher.proofs.blocks.ChaCha20.turn_parts.Goals as goal

pub loop-from-init : goal.loop-from-init
unfolding encrypt
loop-from-init g c = (refl, refl)

pub loop-from-preserved : goal.loop-from-preserved
loop-from-preserved g c =
    let law = g.met.F.Form.some_blocks in
    let whole = c.loop-from.invariant.0 in (
      omega arith,
      part_turned c.args.self.now.key c.args.counter _ c.args.self.now.nonce c.args.text.now c.loop-from.text c.turn_part.new.part
          c.loop-from.from c.min-to.result (64 * g.row.N) c.loop-from.invariant.1 c.turn_part.ensures (omega arith) whole (omega arith) (omega arith),
    )

pub returns-2 : goal.returns-2
returns-2 g c =
    part_turned c.args.self.now.key c.args.counter _ c.args.self.now.nonce c.args.text.now c.loop-from.text c.turn_part.new.part
    c.loop-from.from c.min-to.result (64 * g.row.N) c.loop-from.invariant.1 c.turn_part.ensures (omega arith) c.loop-from.invariant.0 (omega arith) (omega arith)
    ∙ all_turned c.args.self.now.key c.args.counter c.args.self.now.nonce c.args.text.now (c.loop-from.from + 64 * g.row.N) (omega arith)
