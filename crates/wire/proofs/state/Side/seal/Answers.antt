use Rattle.std.proofs.Common.{◌≡◌, ◌+◌, ◌-◌, length, ap, ◌∙◌, ap₂, arith}
use Rattle.wire.specs.Words.{sealed_by}
use Rattle.wire.proofs.Written.{sealed_over_lem, nothing-behind}
use Rattle.wire.proofs.Right.{sum_computed}
use Rattle.wire.proofs.state.Side.seal.Goals as goal

pub returns : goal.returns
returns c key p =
    let n = length c.args.inside.now in
    let head : c.copy_from_slice.new.self ≡ c.args.head.now = c.copy_from_slice.ensures.after in
    let inside : c.copy_from_slice-2.new.self ≡ c.args.inside.now = c.copy_from_slice-2.ensures.after in
    sealed_over_lem key c.args.cipher.now.key c.copy_from_slice.new.self c.args.cipher.now.nonce c.copy_from_slice-2.new.self c.args.out.now
    c.turn_short.new.text c.copy_from_slice-3.new.self n (19 + n - 19) (19 + n + 16 - (19 + n)) (19 + n)
    (ap length head ∙ c.told-head) (ap length inside) (omega arith) (omega arith) (omega arith) (omega arith) (omega arith)
    c.turn_short.ensures (c.copy_from_slice-3.ensures.after ∙ sum_computed key _ _ _ c.unwrap-sum.ensures (c.sum_of.ensures.value key p))
    ∙ nothing-behind _ c.args.out.now (35 + n) (omega arith)
    ∙ ap₂ (λ h x. sealed_by key c.args.cipher.now.key h c.args.cipher.now.nonce x) head inside
