use Rattle.std.proofs.Common.{◌≡◌, Ok}
use Rattle.settings.specs.Plans.{empty_settings}
use Rattle.settings.specs.Reading.{entries_read}
use Rattle.settings.proofs.reading.read.Given as goal

abbrev pub invariant-loop-gate : goal.invariant-loop-gate
invariant-loop-gate l =
    (entries_read l.reader.bytes.now (empty_settings l.header.own l.header.life l.header.most) l.gate ≡ Ok l.settings)
    × (l.settings.plan.gates ≡ l.gate)
