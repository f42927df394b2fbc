use Rattle.std.proofs.Common.{sym, ap, ◌∙◌, subst, arith}
use Rattle.settings.specs.Plans.{plan_with}
use Rattle.settings.specs.Sound.{SoundPlan}
use Rattle.settings.proofs.Growing.{cause_none, more_sound}
use Rattle.settings.proofs.Places.{placed}
use Rattle.settings.proofs.plans.Plan.with.Goals as goal

pub invariant_of-self : goal.invariant_of-self
invariant_of-self c =
    let free = cause_none c.args.self c.args.range c.requires.1 in
    let now = placed c.self.inside.life c.self.inside.most c.self.inside.gates c.from-at.result c.self.inside.sites c.args.range c.args.outside c.from-at.ensures in
    let sound : SoundPlan (plan_with c.args.self c.args.range c.args.outside) = more_sound c.args.self c.args.range c.args.outside (subst SoundPlan c.self.view_is c.self.invariant) c.requires.0 free.0 free.1 (omega arith) (omega arith) (omega arith) in
    subst SoundPlan (sym (now ∙ ap (λ p. plan_with p c.args.range c.args.outside) c.self.view_is)) sound

pub returns : goal.returns
returns c =
    placed c.self.inside.life c.self.inside.most c.self.inside.gates c.from-at.result c.self.inside.sites c.args.range c.args.outside c.from-at.ensures
    ∙ ap (λ p. plan_with p c.args.range c.args.outside) c.self.view_is
