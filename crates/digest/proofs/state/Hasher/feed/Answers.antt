use Rattle.std.proofs.Common.{take, arith}
use Rattle.std.specs.List.{concat}
use Rattle.digest.proofs.Messages.{absorbs_none, absorbs_more, absorbs_all, part_is}
use Rattle.digest.proofs.state.Hasher.feed.Goals as goal

pub loop-block-init : goal.loop-block-init
loop-block-init c = record { total = omega arith; absorbs = absorbs_none _ }

pub loop-block-preserved : goal.loop-block-preserved
loop-block-preserved c = record {
  total = omega (arith, c.absorb_block.ensures.total, c.loop-block.invariant.total);
  absorbs = absorbs_more _ _ _ c.as_chunks.result.0.now c.loop-block.block-index c.loop-block-test.true c.loop-block.invariant.absorbs c.absorb_block.ensures.absorbs;
}

pub absorb_block-requires : goal.absorb_block-requires
absorb_block-requires c = (omega (arith, c.absorb-2.ensures.total), omega (arith, c.absorb-2.ensures.total))

pub returns : goal.returns
returns c =
    absorbs_all _ _ _ _ c.split_at.result.0.now (concat (take c.loop-block.block-index c.as_chunks.result.0.now)) c.as_chunks.result.1.now c.args.part.now
    c.absorb-2.ensures c.loop-block.invariant.absorbs c.absorb-3.ensures
    (part_is c.args.part.now c.split_at.result.0.now c.split_at.result.1.now c.as_chunks.result.1.now c.as_chunks.result.0.now c.min.result c.loop-block.block-index
    c.split_at.ensures.front c.split_at.ensures.back c.as_chunks.ensures.front c.as_chunks.ensures.back (omega arith))
