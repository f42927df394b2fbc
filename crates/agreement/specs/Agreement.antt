-- The plans that are made step by step are allowed. Assumes nothing.
use Rattle.std.specs.Prelude.{◌≡◌, ℕ, ◌^◌, ◌<◌, Ok}
use Rattle.settings.specs.declared.plans.Plan.{Plan}
use Rattle.settings.specs.declared.ranges.Range.{Range}
use Rattle.settings.specs.Plans.{new_plan, add_to}
use Rattle.settings.specs.Sound.{SoundPlan}

-- a plan that is begun is allowed, and stays so with every gate that is added to it
pub record PlansAreSound : Type 0 where
  pub begun : (life most : ℕ) (p : Plan) → most < 2 ^ 32 → new_plan life most ≡ Ok p → SoundPlan p
  pub grown : (p q : Plan) (r : Range) (outside : ℕ) → r.first < 2 ^ 32 → r.last < 2 ^ 32 → outside < 2 ^ 32 → SoundPlan p → add_to p r outside ≡ Ok q → SoundPlan q
