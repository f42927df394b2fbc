use Rattle.std.proofs.Common.{refl}
use Rattle.cipher.specs.ChaCha20.{add32, turn_left, add_word, turn_word, line, quarter_round, column_round, diagonal_round, inner_block, inner_blocks, word_at, start_state, word_bytes, serialized, block_of, block, keystream, encrypt}
use Rattle.vectors.proofs.theorems.chacha20_vectors_hold.Goals as goal

pub returns : goal.returns
unfolding add32 turn_left add_word turn_word line quarter_round column_round diagonal_round inner_block inner_blocks word_at start_state word_bytes serialized block_of block keystream encrypt
returns c = record { quarter = refl; published = refl; text = refl; twice = refl; zeros = refl; one = refl; two = refl }
