use Rattle.std.proofs.Common.{◌≡◌, ◌++◌, vec_items}
use Rattle.settings.specs.Writing.{header_bytes, entries_bytes}
use Rattle.settings.proofs.plans.Settings.write.Given as goal

abbrev pub invariant-loop-gate : goal.invariant-loop-gate
invariant-loop-gate l = vec_items l.bytes ≡ header_bytes l.self ++ entries_bytes l.self l.gate
