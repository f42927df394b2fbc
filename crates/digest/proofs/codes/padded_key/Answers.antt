use Rattle.std.proofs.Common.{List, ℕ, ◌++◌, map, replicate, ap, ◌∙◌, arith, length-append}
use lib.Bits.{bit_xor}
use Rattle.digest.proofs.Keys.{turned_more, turned_all}
use Rattle.digest.proofs.codes.padded_key.Goals as goal

pub loop-b-preserved : goal.loop-b-preserved
loop-b-preserved c =
    let key : List ℕ = c.copy_from_slice.new.self in
    turned_more (λ b. bit_xor b c.args.pad) (key ++ replicate 32 0) c.loop-b.b-items c.loop-b.b-index (omega (arith, length-append key (replicate 32 0))) c.loop-b.invariant

pub returns : goal.returns
returns c =
    let key : List ℕ = c.copy_from_slice.new.self in
    turned_all (λ b. bit_xor b c.args.pad) (key ++ replicate 32 0) c.loop-b.b-items c.loop-b.b-index (omega (arith, length-append key (replicate 32 0))) c.loop-b.invariant
    ∙ ap (λ k. map (λ b. bit_xor b c.args.pad) (k ++ replicate 32 0)) c.copy_from_slice.ensures.after
