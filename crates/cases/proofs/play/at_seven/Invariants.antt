use Rattle.std.proofs.Common.{◌≡◌, ◌+◌}
use Rattle.gateway.specs.Steps.{fresh}
use Rattle.cases.proofs.play.at_seven.Given as goal

abbrev pub invariant-loop : goal.invariant-loop
invariant-loop l =
    let s = fresh l.own 3 600 1000 in
    l.gate ≡ record { own = s.own; gates = s.gates; terms = s.terms; now = l.counter + 1; fell = s.fell; peers = s.peers }
