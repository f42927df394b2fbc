use Rattle.std.proofs.Common.{◌≡◌, ◌≤◌, drop}
use Rattle.addresses.specs.Numbers.{digits_from}
use Rattle.addresses.proofs.numbers.read_number.Given as goal

abbrev pub invariant-loop-digit : goal.invariant-loop-digit
invariant-loop-digit l = (digits_from l.limit l.number (drop l.digit-index l.text) ≡ digits_from l.limit 0 l.text) × (l.number ≤ l.limit)
