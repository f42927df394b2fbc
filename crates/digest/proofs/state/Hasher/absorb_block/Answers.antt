use Rattle.std.proofs.Common.{refl, arith}
use Rattle.digest.proofs.Messages.{holds-whole}
use Rattle.digest.proofs.state.Hasher.absorb_block.Goals as goal

pub returns-clause-absorbs : goal.returns-clause-absorbs
returns-clause-absorbs c =
    record {
      total = omega arith;
      holds = λ m h. holds-whole c.args.self.now _ m c.args.block.now h (omega arith) (omega arith) c.compress.ensures refl;
    }
