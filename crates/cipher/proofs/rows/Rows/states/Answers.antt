use Rattle.std.proofs.Common.{arith}
use Rattle.cipher.proofs.States.{Wide, states-apart}
use Rattle.cipher.proofs.rows.Rows.states.Goals as goal

pub returns : goal.returns
returns c =
    let r = c.args.self in
    let wide : Wide 16 r = record { a = omega arith; b = omega arith; c = omega arith; d = omega arith } in
    (states-apart r wide 0 (omega arith), states-apart r wide 1 (omega arith), states-apart r wide 2 (omega arith), states-apart r wide 3 (omega arith))
