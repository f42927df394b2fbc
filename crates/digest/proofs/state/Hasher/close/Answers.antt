use Rattle.std.proofs.Common.{ℕ, ◌-◌, ◌++◌, List, ◌∷◌, take, replicate, ap, ap₂, ◌∙◌, arith}
use Rattle.digest.specs.Sha256.{compressed}
use Rattle.digest.proofs.Messages.{closed_one, closed_two}
use Rattle.digest.proofs.state.Hasher.close.Goals as goal

pub returns-then-fill-lt56 : goal.returns-then-fill-lt56
returns-then-fill-lt56 c m h =
    let is : ℕ → List ℕ = λ k. take k c.args.self.now.block ++ (128 ∷ replicate (63 - k) 0) in
    c.hashed.ensures ∙ ap (λ x. compressed c.args.self.now.state x) c.with_length.ensures
    ∙ closed_one c.args.self.now m c.marked-last.result h (omega arith) (c.marked-last.ensures ∙ ap is c.fill-fill.ensures)

pub returns : goal.returns
returns c m h =
    let is : ℕ → List ℕ = λ k. take k c.args.self.now.block ++ (128 ∷ replicate (63 - k) 0) in
    c.hashed-3.ensures ∙ ap₂ (λ s x. compressed s x) c.hashed-2.ensures c.with_length-end.ensures
    ∙ closed_two c.args.self.now m c.marked-last.result h (omega arith) (c.marked-last.ensures ∙ ap is c.fill-fill.ensures) (omega arith)
