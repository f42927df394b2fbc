-- What is known of a plan as far as its text was read. Assumes nothing.
use Rattle.std.specs.Prelude.{ℕ, List, Some, None, Option}
use Rattle.settings.specs.declared.plans.Plan.{Plan}
use Rattle.draft.specs.declared.names.Name.{Name}

-- its life and its most, where they were read; the plan, where a gate was read; and the names of
-- its gates, in order
pub record Drafted : Type 0 where
  pub life : Option ℕ
  pub most : Option ℕ
  pub plan : Option Plan
  pub names : List Name

-- how many gates were read
abbrev pub gates_of : Option Plan → ℕ
gates_of None = 0
gates_of (Some p) = p.gates
