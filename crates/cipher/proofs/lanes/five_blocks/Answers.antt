use Rattle.std.proofs.Common.{◌≡◌, ap, ◌∙◌, get_or, arith}
use lib.Lanes.{zip2}
use Rattle.cipher.specs.ChaCha20.{add32, inner_blocks, block_of}
use Rattle.cipher.specs.Lanes.{start_rows, inner_rows, sum_rows}
use Rattle.cipher.proofs.Iterates.{iterate_five}
use Rattle.cipher.proofs.States.{block_lanes}
use Rattle.cipher.proofs.lanes.five_blocks.Goals as goal

pub returns : goal.returns
unfolding block_of
returns c =
    let s = c.args.s.now in
    let n = get_or s 12 0 in
    let r = c.start.result in
    let t = c.counted.result in
    let ten = c.rounds.ensures ∙ iterate_five 10 r t in
    let rows : c.plus.result.0 ≡ sum_rows (inner_rows 10 (start_rows s n)) (start_rows s n) =
    ap (λ m. m.0) c.plus.ensures ∙ ap (λ m. sum_rows m.0 r) ten ∙ ap (λ q. sum_rows (inner_rows 10 q) q) c.start.ensures in
    let fifth : c.plus.result.1 ≡ zip2 add32 (inner_blocks 10 t) t = ap (λ m. m.1) c.plus.ensures ∙ ap (λ m. zip2 add32 m.1 t) ten in
    let b0 = block_lanes s n 0 c.told-s (omega arith) in
    let b1 = block_lanes s n 1 c.told-s (omega arith) in
    let b2 = block_lanes s n 2 c.told-s (omega arith) in
    let b3 = block_lanes s n 3 c.told-s (omega arith) in
    cc
