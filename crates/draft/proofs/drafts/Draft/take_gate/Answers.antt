use Rattle.std.proofs.Common.{Some, Ok, ap, ◌∙◌, arith}
use Rattle.draft.specs.Drafted.{Drafted, gates_of}
use Rattle.draft.specs.Drafts.{and_then, new_name, grown, with_gate, gate_taken}
use Rattle.draft.proofs.Gated.{grown_more, next_gates, name_kept, name_put}
use Rattle.draft.proofs.drafts.Draft.take_gate.Goals as goal

pub invariant_of-self : goal.invariant_of-self
invariant_of-self c =
    let more = grown_more c.in_ok-plan.plan c.in_ok-more.more c.args.prefix.now c.args.outside.now c.in_ok-more.ensures in
    let gates = next_gates c.args.number.now c.args.self c.in_ok-plan.plan c.in_ok-plan.ensures in
    let had = ap (λ (d : Drafted). gates_of d.plan) c.self.view_is in
    name_kept (gates_of c.self.inside.plan) c.from-at.result c.in_ok-more.more.gates c.in_ok-name.name c.self.inside.names (omega (arith, c.from-at.ensures, c.gates.ensures.value, gates, had)) (omega (arith, more.1, gates, had)) (omega (arith, more.0, gates, had)) c.self.invariant.1

pub returns : goal.returns
unfolding gate_taken
returns c =
    let more = grown_more c.in_ok-plan.plan c.in_ok-more.more c.args.prefix.now c.args.outside.now c.in_ok-more.ensures in
    let gates = next_gates c.args.number.now c.args.self c.in_ok-plan.plan c.in_ok-plan.ensures in
    let had = ap (λ (d : Drafted). gates_of d.plan) c.self.view_is in
    let put =
    name_put (gates_of c.self.inside.plan) c.from-at.result c.in_ok-more.more.gates c.in_ok-name.name c.self.inside.names (omega (arith, c.from-at.ensures, c.gates.ensures.value, gates, had)) (omega (arith, more.1, gates, had)) (omega (arith, more.0, gates, had)) c.self.invariant.1
    in
    (λ i. Ok (record { life = c.self.inside.life; most = c.self.inside.most; plan = Some c.in_ok-more.more; names = put i }))
    ∙ ap (λ (d : Drafted). Ok (with_gate d c.in_ok-more.more c.in_ok-name.name)) c.self.view_is
    ∙ (λ i. and_then (c.in_ok-more.ensures i) (λ q. Ok (with_gate c.args.self q c.in_ok-name.name)))
    ∙ (λ i. and_then (c.in_ok-name.ensures i) (λ n. and_then (grown c.in_ok-plan.plan c.args.prefix.now c.args.outside.now) (λ q. Ok (with_gate c.args.self q n))))
    ∙ (λ i. and_then (c.in_ok-plan.ensures i) (λ p. and_then (new_name c.args.self c.args.name.now) (λ n. and_then (grown p c.args.prefix.now c.args.outside.now) (λ q. Ok (with_gate c.args.self q n)))))
