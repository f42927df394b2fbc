use Rattle.std.proofs.Common.{◌≡◌, ◌+◌, ◌-◌, ◌≤◌}
use Rattle.window.specs.Heard.{cleared}
use Rattle.window.proofs.clear.Given as goal

abbrev pub invariant-clear : goal.invariant-clear
invariant-clear l = (l.ring ≡ cleared l.first l.step l.initial.ring) × (l.step ≤ l.last + 1 - l.first)
