use Rattle.std.proofs.Common.{◌∙◌, replicate, arith}
use lib.Lanes.{digits_l, number_l}
use Rattle.std.proofs.lemmas.Simd.{put_chunk_whole}
use Rattle.cipher.proofs.States.{state-bytes}
use Rattle.cipher.proofs.blocks.bytes.Goals as goal

pub returns : goal.returns
returns c = put_chunk_whole (replicate 64 0) (digits_l 256 64 (number_l 4294967296 c.args.words)) (omega arith) ∙ state-bytes c.args.words c.fits-words.0 c.fits-words.1
