use Rattle.std.proofs.Common.{Err, ap, ◌∙◌}
use Rattle.std.proofs.lemmas.Result.{err_from_is_err_and}
use Rattle.wire.proofs.Answered.{cond_err, reply_wrong}
use Rattle.wire.proofs.state.PairKeys.open_reply.Goals as goal

pub returns-in_err-tag : goal.returns-in_err-tag
returns-in_err-tag c key h =
    let exit = err_from_is_err_and c.from_residual.result c.from_residual.ensures.1 in
    let wrong = cond_err _ _ _ _ (c.in_err-tag.ensures key h.hash) in
    exit.1 ∙ ap Err (exit.2 ∙ wrong.1) ∙ reply_wrong _ _ _ key wrong.0
