use Rattle.std.proofs.Common.{rules, tests, ◌∙◌}
use Rattle.gateway.proofs.Slots.{find_first}
use Rattle.gateway.proofs.state.Peer.talk_named.Goals as goal

pub returns-in_err-find : goal.returns-in_err-find
returns-in_err-find c = c.from_residual.ensures ∙ find_first _ _ _ _ _ c.find.ensures.ran (cc) (λ x b q k. search (rules, tests)) c.in_err-find.was

pub returns : goal.returns
returns c = find_first _ _ _ _ _ c.find.ensures.ran (cc) (λ x b q k. search (rules, tests)) c.in_ok-find.was
