use Rattle.std.proofs.Common.{◌≡◌, ◌+◌, ◌*◌, take}
use Rattle.std.specs.List.{concat}
use Rattle.digest.specs.Hashers.{Absorbs}
use Rattle.digest.proofs.state.Hasher.feed.Given as goal

abbrev pub invariant-loop-block : goal.invariant-loop-block
invariant-loop-block l =
    record {
      total : l.self.total ≡ l.initial.self.total + 64 * l.block-index;
      absorbs : Absorbs l.initial.self l.self (concat (take l.block-index l.blocks));
    }
