-- In runs by a plan, the abstract protocol's owners are those of the longest prefixes. Assumes nothing.
use Rattle.std.proofs.Common.{◌≡◌, ℕ, ◌<◌, ◌⊎◌, subst, inl, inr, arith}
use Rattle.gates.proofs.Whole.{main}
use Rattle.settings.specs.declared.plans.Plan.{Plan}
use Rattle.settings.specs.Owners.{Owns, Nobodys}
use Rattle.settings.specs.Plans.{owner_in}
use Rattle.settings.specs.Ranges.{nobody}
use Rattle.settings.specs.Runs.{rules_of, RunsAreOwned}
use Rattle.settings.specs.Sound.{SoundPlan}
use Rattle.settings.proofs.Owning.{owner_longest}

owns : (p : Plan) → SoundPlan p → (address gate : ℕ) → owner_in p address ≡ gate → gate < p.gates → Owns p.ranges p.gates address gate
owns p sound address gate is below = go (owner_longest p.ranges p.gates sound.table address)
  where
    go : ((owner_in p address ≡ nobody) × Nobodys p.ranges p.gates address) ⊎ Owns p.ranges p.gates address (owner_in p address) →
        Owns p.ranges p.gates address gate
    go (inl none) = absurd (omega (arith, is, none.0, below, sound.table.few))
    go (inr own) = subst (Owns p.ranges p.gates address) is own

pub runs_owned : RunsAreOwned
runs_owned p sound es =
    record {
      source = λ o i below. owns p sound o.inner.from o.other ((main (rules_of p) es).was_put o i).1 below;
      destination = λ o i below. owns p sound o.inner.to o.gate ((main (rules_of p) es).was_put o i).2 below;
    }
