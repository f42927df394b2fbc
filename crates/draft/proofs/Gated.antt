-- How many gates a plan has, as one is added, and their names. Assumes nothing.
use Rattle.std.proofs.Common.{◌≡◌, ℕ, ◌+◌, ◌<◌, ◌≤◌, Bool, true, false, cond, ◌&&◌, leb, eqb, List, [], ◌∷◌, ◌++◌, take, set, Some, None, Ok, Err, Option, Result, refl, sym, ap, ◌∙◌, subst, arith}
use Rattle.std.proofs.lemmas.Bool.Decides.{nat_tests}
use Rattle.std.proofs.lemmas.Grind.{take-set_at}
use Rattle.std.specs.Option.{ok_or}
use Rattle.protocol.specs.Limits.{gates_limit, life_least, life_limit, most_least}
use Rattle.addresses.specs.Dotted.{address_read, prefix_read}
use Rattle.addresses.specs.Numbers.{number_read}
use Rattle.settings.specs.declared.faults.Cause.{Cause}
use Rattle.settings.specs.declared.faults.Cause.TheVariants.{Wrong}
use Rattle.settings.specs.declared.faults.Fault.{Fault}
use Rattle.settings.specs.declared.faults.Field.TheVariants as field
use Rattle.settings.specs.declared.plans.Plan.{Plan}
use Rattle.settings.specs.declared.ranges.Range.{Range}
use Rattle.settings.specs.Faults.{header_fault}
use Rattle.settings.specs.Plans.{empty_plan, plan_with, range_cause, new_plan, add_unless, add_to}
use Rattle.settings.specs.Sound.{Padded}
use Rattle.settings.proofs.Growing.{padded_more}
use Rattle.draft.specs.declared.drafts.Draft.{Draft}
use Rattle.draft.specs.declared.faults.TextFault.TheVariants.{NotNext, NotPrefix, NotAddress}
use Rattle.draft.specs.declared.names.Name.{Name}
use Rattle.draft.specs.Drafted.{gates_of}
use Rattle.draft.specs.Drafts.{allowed, begun_by, begun, numbered, next_gate, grown}
use Rattle.draft.specs.Names.{blank_name}
use Rattle.draft.specs.Ranges.{range_of}
use Rattle.draft.proofs.Steps.{done, was_plan}

added : (p q : Plan) (r : Range) (o : ℕ) → add_to p r o ≡ Ok q → (p.gates < 32) × (q.gates ≡ p.gates + 1)
added p q r o is = by (leb gates_limit p.gates) (range_cause p r) refl is
  where
    by : (a : Bool) (c : Option Cause) → leb gates_limit p.gates ≡ a → cond {A = Result Plan Fault} a (Err (header_fault field.Gates Wrong)) (add_unless p r o c) ≡ Ok q → (p.gates < 32) × (q.gates ≡ p.gates + 1)
    by true c e same = absurd (let z : ◌≡◌ {A = ℕ} 0 1 = cc in omega arith)
    by false (Some why) e same = absurd (let z : ◌≡◌ {A = ℕ} 0 1 = cc in omega arith)
    by false None e same = let this : plan_with p r o ≡ q = cc in (grind (arith, nat_tests), sym (ap (λ (x : Plan). x.gates) this))

-- a plan that takes one gate more has room for it
pub grown_more : (p q : Plan) (prefix outside : List ℕ) → Ok q ≡ grown p prefix outside → (p.gates < 32) × (q.gates ≡ p.gates + 1)
unfolding grown
grown_more p q prefix outside is =
    let one = done (ok_or (prefix_read prefix) NotPrefix) _ q (sym is) in
    let two = done (ok_or (address_read outside) NotAddress) (λ o. allowed (add_to p (range_of one.value) o)) q one.then in
    added p q (range_of one.value) two.value (was_plan (add_to p (range_of one.value) two.value) q two.then)

-- a new plan has no gates
new_gates : (l m : ℕ) (p : Plan) → new_plan l m ≡ Ok p → p.gates ≡ 0
new_gates l m p is = by (leb life_least l && leb l life_limit) (leb most_least m) is
  where
    by : (a b : Bool) → cond {A = Result Plan Fault} a (cond b (Ok (empty_plan l m)) (Err (header_fault field.Most Wrong))) (Err (header_fault field.Life Wrong)) ≡ Ok p → p.gates ≡ 0
    by true true same = let this : empty_plan l m ≡ p = cc in sym (ap (λ (x : Plan). x.gates) this)
    by true false same = absurd (let z : ◌≡◌ {A = ℕ} 0 1 = cc in omega arith)
    by false b same = absurd (let z : ◌≡◌ {A = ℕ} 0 1 = cc in omega arith)

begun_gates : (p : Plan) (o : Option Plan) (l m : Option ℕ) → begun_by o l m ≡ Ok p → p.gates ≡ gates_of o
begun_gates p (Some q) l m is = let this : q ≡ p = cc in sym (ap (λ (x : Plan). x.gates) this)
begun_gates p None None m is = absurd (let z : ◌≡◌ {A = ℕ} 0 1 = cc in omega arith)
begun_gates p None (Some l) None is = absurd (let z : ◌≡◌ {A = ℕ} 0 1 = cc in omega arith)
begun_gates p None (Some l) (Some m) is = new_gates l m p (was_plan (new_plan l m) p is)

-- the plan to which the next gate is added has as many gates as were read
pub next_gates : (w : List ℕ) (d : Draft) (p : Plan) → Ok p ≡ next_gate w d → p.gates ≡ gates_of d.plan
unfolding next_gate begun
next_gates w d p is =
    let one = done (begun d) (λ q. numbered q (number_read 255 w)) p (sym is) in
    ap (λ (x : Plan). x.gates) (sym (by one.value (number_read 255 w) one.then)) ∙ begun_gates one.value d.plan d.life d.most one.was
  where
    by : (q : Plan) (o : Option ℕ) → numbered q o ≡ Ok p → q ≡ p
    by q None same = absurd (let z : ◌≡◌ {A = ℕ} 0 1 = cc in omega arith)
    by q (Some n) same = test (eqb n q.gates) same
      where
        test : (b : Bool) → cond b (Ok q) (Err (NotNext q.gates)) ≡ Ok p → q ≡ p
        test true e = cc
        test false e = absurd (let z : ◌≡◌ {A = ℕ} 0 1 = cc in omega arith)

-- a name at the place behind those of the gates, for one gate more
module _ (n at gates : ℕ) (x : Name) (names : List Name) (here : at ≡ n) (more : gates ≡ n + 1) (less : n < 32) (pad : Padded n blank_name names) where
  pub name_kept : (gates ≤ 32) × Padded gates blank_name (set names at x)
  name_kept = (
    omega (arith, more, less),
    subst (λ g. Padded g blank_name (set names at x)) (sym more) (subst (λ k. Padded (n + 1) blank_name (set names k x)) (sym here) (padded_more n blank_name x names less pad)),
  )

  pub name_put : take gates (set names at x) ≡ take n names ++ x ∷ []
  name_put = ap (λ k. take gates (set names k x)) here ∙ take-set_at names n gates x more (omega (arith, pad.long, less))
