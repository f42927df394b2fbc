use Rattle.std.proofs.Common.{◌≡◌, ◌∙◌, subst, ap, rules, arith}
use Rattle.std.proofs.iter.runs.Sources.{range_runs}
use Rattle.std.proofs.lemmas.Bool.Decides.{nat_tests}
use Rattle.std.proofs.lemmas.Option.{IfSome_then}
use Rattle.std.specs.Iterator.Runs.{ItemsCountUp}
use Rattle.settings.specs.declared.plans.Plan.{Plan}
use Rattle.settings.specs.Owners.{Table}
use Rattle.settings.specs.Ranges.{range_at, holds, span, owner_below, as_gate}
use Rattle.settings.proofs.Nearest.{counted, turned, owner_found}
use Rattle.settings.proofs.plans.Plan.owner.Goals as goal

pub returns : goal.returns
returns c =
    let p = c.min_by_key.ensures.runs.0 in
    let q = c.filter.ensures.runs p p.seen c.min_by_key.ensures.runs.1 in
    let items = q.2.4 (λ g. holds (range_at c.args.self.now.ranges g) c.args.address) (λ x b r k. search rules) in
    let gates = counted q.0 c.self.inside.gates (subst (λ s. ItemsCountUp q.0 s.start s.end) q.1 (range_runs q.0 q.0.seen)) (q.2.0 ∙ c.min_by_key.ensures.runs.2) in
    let table : Table c.args.self.now.ranges c.self.inside.gates = subst (λ rs. Table rs c.self.inside.gates) (ap (λ (s : Plan). s.ranges) c.self.view_is) c.self.invariant.table in
    owner_found c.args.self.now.ranges c.args.address c.self.inside.gates table p q.0.items c.min_by_key.result items gates.0 gates.1 (turned c.min_by_key.result _ _ _ c.min_by_key.ensures.runs.3 (λ m found. (found.0, (let key = found.1 (λ x r f k. search rules) in λ k. IfSome_then (p.at k) (key.2 k) (λ x it. (let mine : key.0 ≡ span (range_at c.args.self.now.ranges m) = search (rules, key.1) in let theirs : it.0 ≡ span (range_at c.args.self.now.ranges x) = search (rules, it.1) in grind (arith, nat_tests)))))))
    ∙ ap (λ (s : Plan). as_gate (owner_below c.args.self.now.ranges c.args.address s.gates)) c.self.view_is
