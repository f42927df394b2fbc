use Rattle.std.proofs.Common.{◌≡◌, ◌++◌, map, take, drop}
use Rattle.gateway.specs.Peers.{forgotten}
use Rattle.gateway.proofs.state.Gateway.restart.Given as goal

abbrev pub invariant-loop-peer : goal.invariant-loop-peer
invariant-loop-peer l = l.peer-items ≡ map forgotten (take l.peer-index l.initial.peer-items) ++ drop l.peer-index l.initial.peer-items
