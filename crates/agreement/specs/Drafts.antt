-- The plans that texts say are allowed. Assumes nothing.
use Rattle.std.specs.Prelude.{◌≡◌, ℕ, List, Some, Ok}
use Rattle.settings.specs.declared.plans.Plan.{Plan}
use Rattle.draft.specs.declared.drafts.Draft.{Draft}
use Rattle.draft.specs.Reading.{draft_read}
use Rattle.settings.specs.Sound.{SoundPlan}

-- a plan that is read from a text is allowed, whatever the text
abbrev pub DraftsAreSound : Type 0
DraftsAreSound = (text : List ℕ) (d : Draft) (p : Plan) → draft_read text ≡ Ok d → d.plan ≡ Some p → SoundPlan p
