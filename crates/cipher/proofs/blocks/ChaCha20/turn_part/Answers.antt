use Rattle.std.proofs.Common.{◌∙◌, ap, sym, arith}
use lib.Bits.{bit_xor}
use lib.Lanes.{zip2}
use Rattle.std.proofs.lemmas.List.Concat.{concat_is}
use Rattle.cipher.proofs.Streams.{turned_by}
use Rattle.cipher.proofs.blocks.ChaCha20.turn_part.Goals as goal

pub stream-requires : goal.stream-requires
stream-requires g c = let law = g.met.F.Form.some_blocks in omega arith

pub returns-else-part-le-BLOCK : goal.returns-else-part-le-BLOCK
returns-else-part-le-BLOCK g c =
    c.xor_onto.ensures
    ∙ ap (zip2 bit_xor c.args.part.now) (c.as_flattened.ensures.value ∙ sym (concat_is c.stream.result) ∙ c.stream.ensures)
    ∙ turned_by c.args.self.now.key c.args.counter c.args.self.now.nonce c.args.part.now g.row.N (omega arith)
