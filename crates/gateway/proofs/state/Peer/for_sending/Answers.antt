use Rattle.std.proofs.Common.{sym, arith}
use Rattle.gateway.specs.Talks.{may_send}
use Rattle.gateway.proofs.Slots.{first-at, first-all}
use Rattle.gateway.proofs.state.Peer.for_sending.Goals as goal

pub returns-then-may_send : goal.returns-then-may_send
returns-then-may_send c =
    first-at
    (may_send c.args.now c.args.terms.life c.args.terms.most)
    c.args.self.talks
    c.loop-slot.slot-index
    c.in-Some.talk
    c.loop-slot.invariant
    c.in-Some.is
    (sym c.if-may_send.ensures)

pub returns : goal.returns
returns c = first-all (may_send c.args.now c.args.terms.life c.args.terms.most) c.args.self.talks (λ k l. c.loop-slot.invariant k (omega arith))
