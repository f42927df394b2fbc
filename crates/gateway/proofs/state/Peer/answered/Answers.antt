use Rattle.std.proofs.Common.{rules, tests, set, get_or, None, ap, ◌∙◌, ◌≡◌, arith}
use Rattle.gateway.specs.Slots.{emptied}
use Rattle.gateway.specs.Peers.{has_tag, with_waits}
use Rattle.gateway.proofs.Slots.{mapped_more, mapped_all}
use Rattle.gateway.proofs.state.Peer.answered.Goals as goal

pub loop-slot-preserved : goal.loop-slot-preserved
loop-slot-preserved c =
    let e : c.filter.result ≡ emptied (has_tag c.args.tag) (get_or c.loop-slot.slot-items c.loop-slot.slot-index None) = search (rules, tests) in
    ap (λ x. set c.loop-slot.slot-items c.loop-slot.slot-index x) e ∙
    mapped_more (emptied (has_tag c.args.tag)) None c.args.self.waits c.loop-slot.slot-items c.loop-slot.slot-index (omega arith) c.loop-slot.invariant

pub returns : goal.returns
returns c =
    ap
    (λ ws. with_waits ws c.args.self)
    (mapped_all (emptied (has_tag c.args.tag)) c.args.self.waits c.loop-slot.slot-items c.loop-slot.slot-index (omega arith) c.loop-slot.invariant)
