use Rattle.std.proofs.Common.{◌≡◌, ◌≤◌, ◌*◌, ◌∙◌, map, length, sym, ap, subst, arith, rules}
use Rattle.std.proofs.lemmas.Bool.Decides.{nat_tests}
use Rattle.std.proofs.lemmas.Iterator.{YieldsList-from_range, YieldsList-from_map, items_from_drains}
use Rattle.std.proofs.lemmas.List.{map-id}
use Rattle.std.specs.List.{range_with_len}
use Rattle.settings.specs.Making.{settings_for, all_settings, Agree, AllRead}
use Rattle.settings.proofs.Agreeing.{agree, all_read}
use Rattle.settings.proofs.making.make_all.Goals as goal

pub returns : goal.returns
unfolding all_settings
returns c =
    let few : c.args.plan.gates ≤ 32 = c.gates-gates.ensures.sound.table.few in
    let enough : 1024 * c.args.plan.gates ≤ length c.args.drawn.now = omega arith in
    let ran = c.in_ok-all.ensures.ran in
    let is : c.in_ok-all.all.items ≡ map (settings_for c.args.plan c.args.drawn.now) (range_with_len 0 c.args.plan.gates) =
    ran.2.0
    ∙ sym (map-id ran.0)
    ∙ items_from_drains ran.0 ran.1 (YieldsList-from_map _ (settings_for c.args.plan c.args.drawn.now) (YieldsList-from_range 0 c.gates-gates.result c.gates-gates.result c.map.ensures.source (omega arith)) c.map.ensures.closure (λ x y q k. search rules))
    ∙ ap (λ n. map (settings_for c.args.plan c.args.drawn.now) (range_with_len 0 n)) c.gates-gates.ensures.value
    in
    record {
      value = is;
      fault = tt;
      able = grind (arith, nat_tests);
      agree = subst Agree (sym is) (agree c.args.plan c.args.drawn.now few);
      reads = subst AllRead (sym is) (all_read c.args.plan c.args.drawn.now few enough c.gates-gates.ensures.sound);
    }
