use Rattle.std.proofs.Common.{◌≡◌, ◌+◌, ◌-◌, ◌%◌, length, refl, arith}
use borrow.Rule.Slice.PartMut.{put_mid}
use Rattle.digest.proofs.Messages.{holds_full}
use Rattle.digest.proofs.state.Hasher.absorb.Goals as goal

pub returns-then-end-eq64 : goal.returns-then-end-eq64
returns-then-end-eq64 c =
    let h = c.args.self.now in
    let fill = c.fill-fill.result in
    let at : fill ≡ h.total % 64 = c.fill-fill.ensures in
    let n : fill + length c.args.piece.now - fill ≡ length c.args.piece.now = omega arith in
    record {
      total = refl;
      holds = λ m r.
          holds_full h _ m c.args.piece.now _ r (omega arith) (omega arith) (λ i. put_mid (at i) (n i) h.block (c.copy_from_slice.ensures.after i))
          c.compress.ensures refl;
    }
