use Rattle.gateway.specs.Talks.{may_send}
use Rattle.gateway.proofs.Slots.{Passed}
use Rattle.gateway.proofs.state.Peer.for_sending.Given as goal

abbrev pub invariant-loop-slot : goal.invariant-loop-slot
invariant-loop-slot l = Passed (may_send l.now l.terms.life l.terms.most) l.slot-items l.slot-index
