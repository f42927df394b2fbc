use Rattle.std.proofs.Common.{◌≡◌, ◌++◌, [], ◌∷◌, cond, ap, ◌∙◌}
use Rattle.settings.specs.Writing.{two, four}
use Rattle.settings.proofs.Places.{joined}
use Rattle.settings.proofs.plans.Settings.write_header.Goals as goal

pub returns : goal.returns
returns c = λ ok.
    let last : c.extend_from_slice-4.new.self.items ≡ c.extend_from_slice-3.new.self.items ++ c.to_be_bytes-3.result = c.extend_from_slice-4.ensures.items ∙ ap (λ b. cond b (c.extend_from_slice-3.new.self.items ++ c.to_be_bytes-3.result) c.extend_from_slice-3.new.self.items) ok in
    let life : c.to_be_bytes.result ≡ two c.args.self.now.plan.life [] = c.to_be_bytes.ensures ∙ ap (λ n. two n []) c.life.ensures in
    let most : c.to_be_bytes-2.result ≡ four c.args.self.now.plan.most [] = c.to_be_bytes-2.ensures ∙ ap (λ n. four n []) c.most.ensures in
    joined c.args.bytes.now.items _ _ _ _ _ _ _ _ c.in_ok-extend_from_slice.ensures.items c.in_ok-extend_from_slice-2.ensures.items c.in_ok-extend_from_slice-3.ensures.items last
    ∙ (λ j. c.args.bytes.now.items ++ ((1 ∷ c.gates.ensures.value j ∷ c.args.self.now.own ∷ []) ++ (life j ++ (most j ++ c.to_be_bytes-3.ensures j))))
