use Rattle.std.proofs.Common.{◌≡◌, true, false, ap, ◌∙◌, rules}
use Rattle.std.proofs.lemmas.Iterator.{first_from_Range}
use Rattle.settings.specs.declared.plans.Plan.{Plan}
use Rattle.settings.specs.Ranges.{range_at, same_range, same_below}
use Rattle.settings.proofs.Below.{first_same}
use Rattle.settings.proofs.plans.Plan.gate_with.Goals as goal

pub returns : goal.returns
returns c =
    first_same c.args.self.now.ranges c.args.range c.self.inside.gates c.find.result (first_from_Range _ c.find.new.self _ c.find.result (λ k. same_range (range_at c.args.self.now.ranges k) c.args.range ≡ true) (λ k. same_range (range_at c.args.self.now.ranges k) c.args.range ≡ false) c.find.ensures.ran (λ x q k. search rules) (λ x q k. search rules))
    ∙ ap (λ (p : Plan). same_below c.args.self.now.ranges c.args.range p.gates) c.self.view_is
