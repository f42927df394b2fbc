use Rattle.std.proofs.Common.{◌≡◌, ◌++◌, map, take, drop}
use Rattle.gateway.specs.Slots.{emptied}
use Rattle.gateway.specs.Peers.{has_tag}
use Rattle.gateway.proofs.state.Peer.answered.Given as goal

abbrev pub invariant-loop-slot : goal.invariant-loop-slot
invariant-loop-slot l = l.slot-items ≡ map (emptied (has_tag l.tag)) (take l.slot-index l.initial.slot-items) ++ drop l.slot-index l.initial.slot-items
