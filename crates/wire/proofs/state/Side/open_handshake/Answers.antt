use Rattle.std.proofs.Common.{◌∙◌}
use Rattle.std.proofs.lemmas.Result.{err_from_is_err_and}
use Rattle.wire.proofs.Answered.{cond_err, numbers_wrong}
use Rattle.wire.proofs.state.Side.open_handshake.Goals as goal

pub returns-in_err-check : goal.returns-in_err-check
returns-in_err-check c key p =
    let exit = err_from_is_err_and c.from_residual.result c.from_residual.ensures.1 in
    let wrong = cond_err _ _ _ _ (c.in_err-check.ensures key p) in
    exit.1 ∙ numbers_wrong key _ _ _ wrong.0 (exit.2 ∙ wrong.1)
