use Rattle.std.proofs.Common.{rules, [], ◌∙◌, arith}
use Rattle.digest.specs.Sha256.{word_bytes}
use Rattle.digest.proofs.Bytes.{words_joined}
use Rattle.digest.proofs.values.serialize.Goals as goal

pub returns : goal.returns
unfolding word_bytes
returns c =
    c.copy_from_slice.ensures.after ∙ c.as_flattened.ensures.value
    ∙ words_joined c.args.h.now c.map.result (omega arith) (λ i l. let k = c.map.ensures.items.at i 0 [] (omega arith) in search rules)
