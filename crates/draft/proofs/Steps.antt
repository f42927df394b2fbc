-- What was done, where steps that may fail went through. Assumes nothing.
use Rattle.std.proofs.Common.{◌≡◌, ℕ, Some, None, Ok, Err, Option, Result, refl, ap, arith}
use Rattle.std.specs.Option.{ok_or}
use Rattle.settings.specs.declared.faults.Fault.{Fault}
use Rattle.settings.specs.declared.plans.Plan.{Plan}
use Rattle.draft.specs.declared.faults.TextFault.{TextFault}
use Rattle.draft.specs.Drafts.{and_then, allowed}

-- a step that was done, and what it was done after
pub record Done {A B : Type 0} (r : Result A TextFault) (next : A → Result B TextFault) (y : B) : Type 0 where
  pub value : A
  pub was : r ≡ Ok value
  pub then : next value ≡ Ok y

pub done : {A B : Type 0} (r : Result A TextFault) (next : A → Result B TextFault) (y : B) → and_then r next ≡ Ok y → Done r next y
done (Ok x) next y is = record { value = x; was = refl; then = is }
done (Err e) next y is = absurd (let z : ◌≡◌ {A = ℕ} 0 1 = cc in omega arith)

pub was_some : {A : Type 0} (f : TextFault) (o : Option A) (x : A) → ok_or o f ≡ Ok x → o ≡ Some x
was_some f (Some y) x is = let e : y ≡ x = cc in ap Some e
was_some f None x is = absurd (let z : ◌≡◌ {A = ℕ} 0 1 = cc in omega arith)

pub was_plan : (r : Result Plan Fault) (p : Plan) → allowed r ≡ Ok p → r ≡ Ok p
was_plan (Ok q) p is = let e : q ≡ p = cc in ap Ok e
was_plan (Err e) p is = absurd (let z : ◌≡◌ {A = ℕ} 0 1 = cc in omega arith)
