use Rattle.std.proofs.Common.{◌-◌, take, ap, ◌∙◌, ap₂, arith}
use Rattle.cipher.specs.ChaCha20.{encrypt}
use Rattle.wire.proofs.Answered.{inside_there}
use Rattle.wire.proofs.opening.inside_of.Goals as goal

pub returns : goal.returns
returns c =
    let drawn = rw c.unwrap-drawn.ensures at c.first_chunk.ensures.cases in
    let inside = rw c.unwrap.ensures at c.first_chunk-2.ensures.cases in
    let there = inside_there c.args.word.now c.nonce_of.result c.unwrap.result.now (51 - 3) (51 - 19) c.told-word (c.nonce_of.ensures ∙ ap (take 12) drawn.same) (omega arith) inside.same (omega arith) in
    c.turn_short.ensures ∙ ap₂ (λ v x. encrypt c.args.turning.now 0 v x) there.0 there.1
