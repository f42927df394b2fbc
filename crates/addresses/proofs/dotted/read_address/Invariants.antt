use Rattle.std.proofs.Common.{◌*◌, ◌<◌, ◌^◌}
use Rattle.addresses.specs.Dotted.{address_read}
use Rattle.addresses.proofs.Parts.{Rest}
use Rattle.addresses.proofs.dotted.read_address.Given as goal

abbrev pub invariant-loop-limit : goal.invariant-loop-limit
invariant-loop-limit l =
    Rest (goal.iterator-loop-limit).next_gives (λ x. x.now) l.parts l.limit-index l.address (address_read l.text)
    × (l.address < 2 ^ (8 * l.limit-index))
