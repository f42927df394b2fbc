-- A plan that is begun is allowed, and stays so with one gate more. Assumes nothing.
use Rattle.std.proofs.Common.{◌≡◌, ℕ, ◌^◌, ◌<◌, Bool, true, false, cond, ◌&&◌, leb, Some, None, Ok, Err, Option, Result, refl, subst, arith}
use Rattle.std.proofs.lemmas.Bool.Decides.{nat_tests}
use Rattle.protocol.specs.Limits.{gates_limit, life_least, life_limit, most_least}
use Rattle.settings.specs.declared.faults.Cause.{Cause}
use Rattle.settings.specs.declared.faults.Cause.TheVariants.{Wrong}
use Rattle.settings.specs.declared.faults.Fault.{Fault}
use Rattle.settings.specs.declared.faults.Field.TheVariants as field
use Rattle.settings.specs.declared.plans.Plan.{Plan}
use Rattle.settings.specs.declared.ranges.Range.{Range}
use Rattle.settings.specs.Faults.{header_fault}
use Rattle.settings.specs.Plans.{empty_plan, plan_with, range_cause, new_plan, add_unless, add_to}
use Rattle.settings.specs.Sound.{SoundPlan}
use Rattle.settings.proofs.Growing.{empty_sound, more_sound, cause_none}
use Rattle.agreement.specs.Agreement.{PlansAreSound}

pub plans_sound : PlansAreSound
plans_sound = record { begun = begun; grown = grown }
  where
    begun : (life most : ℕ) (p : Plan) → most < 2 ^ 32 → new_plan life most ≡ Ok p → SoundPlan p
    begun life most p small is = by (leb life_least life && leb life life_limit) (leb most_least most) refl refl is
      where
        by : (a b : Bool) → (leb life_least life && leb life life_limit) ≡ a → leb most_least most ≡ b → cond {A = Result Plan Fault} a (cond b (Ok (empty_plan life most)) (Err (header_fault field.Most Wrong))) (Err (header_fault field.Life Wrong)) ≡ Ok p → SoundPlan p
        by true true e f same =
            let this : empty_plan life most ≡ p = cc in
            subst SoundPlan this (empty_sound life most (grind (arith, nat_tests)) (grind (arith, nat_tests)) (grind (arith, nat_tests)) small)
        by true false e f same = absurd (let z : ◌≡◌ {A = ℕ} 0 1 = cc in omega arith)
        by false b e f same = absurd (let z : ◌≡◌ {A = ℕ} 0 1 = cc in omega arith)

    grown : (p q : Plan) (r : Range) (outside : ℕ) → r.first < 2 ^ 32 → r.last < 2 ^ 32 → outside < 2 ^ 32 → SoundPlan p → add_to p r outside ≡ Ok q → SoundPlan q
    grown p q r outside first last out ok is = by (leb gates_limit p.gates) (range_cause p r) refl refl is
      where
        by : (a : Bool) (o : Option Cause) → leb gates_limit p.gates ≡ a → range_cause p r ≡ o → cond {A = Result Plan Fault} a (Err (header_fault field.Gates Wrong)) (add_unless p r outside o) ≡ Ok q → SoundPlan q
        by true o e f same = absurd (let z : ◌≡◌ {A = ℕ} 0 1 = cc in omega arith)
        by false (Some why) e f same = absurd (let z : ◌≡◌ {A = ℕ} 0 1 = cc in omega arith)
        by false None e f same =
            let this : plan_with p r outside ≡ q = cc in
            let free = cause_none p r f in
            subst SoundPlan this (more_sound p r outside ok (grind (arith, nat_tests)) free.0 free.1 first last out)
