use Rattle.std.proofs.Common.{◌≡◌, ◌+◌, ◌^◌, true, cond, ltb, [], ◌∷◌, length, take, is_ok, Ok, Err, sym, ap, ◌∙◌}
use Rattle.digest.specs.Hashers.{limited}
use Rattle.digest.specs.declared.state.Fault.TheVariants.{TooLong}
use Rattle.wire.specs.Keys.{sum_of}
use Rattle.wire.proofs.Right.{limited-ok}
use Rattle.wire.proofs.state.Side.sum_of.Goals as goal

-- the byte before the body is always taken, and the body only if it is short enough
pub returns-clause-value : goal.returns-clause-value
unfolding sum_of
returns-clause-value c key p =
    let body = c.args.body.now in
    let one : is_ok c.update.result ≡ true = ap is_ok c.unwrap.ensures in
    let total : c.update.new.self.inner.total ≡ 65 =
    c.update.ensures.total ∙ ap (λ n. n + cond (is_ok c.update.result) 1 0) c.begin-mac.ensures.total ∙ ap (λ b. 64 + cond b 1 0) one in
    let short : ltb (65 + length body) (2 ^ 61) ≡ true = limited-ok _ _ (sym c.in_ok-update.was ∙ c.update-2.ensures.answer ∙ ap (λ n. limited (n + length body) tt) total) in
    let begun = c.begin-mac.ensures.taken key p in
    let marked = c.update.ensures.taken key [] begun one in
    let all = c.update-2.ensures.taken key (255 ∷ []) marked (ap is_ok c.in_ok-update.was) in
    let chunk = rw c.unwrap-2.ensures at c.first_chunk.ensures.cases in
    let sum : c.unwrap-2.result.now ≡ sum_of key body = chunk.same ∙ ap (take 16) (c.finish.ensures key _ all) in
    ap Ok sum ∙ ap (λ b. cond b (Ok (sum_of key body)) (Err TooLong)) (sym short)
