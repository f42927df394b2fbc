use Rattle.std.proofs.Common.{rules, set, ap, ◌∙◌, arith}
use Rattle.gateway.specs.Peers.{forgotten}
use Rattle.gateway.specs.Steps.{blank, with_peers, restarted}
use Rattle.gateway.proofs.Slots.{mapped_more, mapped_all}
use Rattle.gateway.proofs.state.Gateway.restart.Goals as goal

pub loop-peer-preserved : goal.loop-peer-preserved
loop-peer-preserved c =
    ap (λ x. set c.loop-peer.peer-items c.loop-peer.peer-index x) (search rules) ∙
    mapped_more forgotten blank c.args.self.now.peers c.loop-peer.peer-items c.loop-peer.peer-index (omega arith) c.loop-peer.invariant

pub returns : goal.returns
returns c =
    ap
    (λ ps. with_peers ps (restarted c.args.self.now))
    (mapped_all forgotten c.args.self.now.peers c.loop-peer.peer-items c.loop-peer.peer-index (omega arith) c.loop-peer.invariant)
