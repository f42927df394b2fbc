use Rattle.std.proofs.Common.{rules, tests}
use Rattle.gateway.proofs.Slots.{any_first}
use Rattle.gateway.proofs.state.Peer.is_greeted.Goals as goal

pub returns : goal.returns
returns c = any_first _ _ _ _ _ c.any.ensures.ran (cc) (λ x b q k. search (rules, tests))
