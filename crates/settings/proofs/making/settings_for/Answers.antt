use Rattle.std.proofs.Common.{◌≡◌, ◌≤◌, cond, ltb, arith, rules}
use Rattle.settings.specs.Making.{key_for, keys_for}
use Rattle.settings.specs.Plans.{blank_key}
use Rattle.settings.proofs.Agreeing.{keys_made}
use Rattle.settings.proofs.Calling.{from_fn_gives}
use Rattle.settings.proofs.making.settings_for.Goals as goal

pub returns : goal.returns
returns c =
    let few : c.args.plan.gates ≤ 32 = c.gates.ensures.sound.table.few in
    let keys : c.from_fn-keys.result ≡ keys_for c.args.drawn.now c.args.own c.args.plan.gates = keys_made c.args.drawn.now c.args.own c.args.plan.gates c.from_fn-keys.result few c.from_fn-keys.ensures.items.long (λ k less. from_fn_gives _ (λ i. cond (ltb i c.args.plan.gates) (key_for c.args.drawn.now c.args.own i) blank_key) _ (λ i y q called. search rules) c.from_fn-keys.result 0 32 c.from_fn-keys.ensures.items.each k blank_key (omega arith) (omega arith)) in
    λ j. record { own = c.args.own; plan = c.args.plan; keys = keys j }
