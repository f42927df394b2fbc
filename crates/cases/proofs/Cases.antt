-- The table, computed. Assumes nothing.
use Rattle.std.proofs.Common.{refl}
use Rattle.window.specs.Heard.{cleared}
use Rattle.gateway.specs.Slots.{first_that, replaced}
use Rattle.cases.specs.Cases.{Cases, played, end}

pub cases : Cases
unfolding played end first_that replaced cleared
cases = record { table = refl; ring = refl }
