use Rattle.std.proofs.Common.{refl}
use Rattle.digest.specs.Hmac.{short_key, key_block, inner_pad, outer_pad, hmac}
use Rattle.digest.specs.Sha256.{add32, not32, shr, rotr, zeros_after, length_bytes, padding, ch, maj, bsig0, bsig1, ssig0, ssig1, round_constants, initial_hash, word_at, next_word, block_words, extended, schedule, temp1, temp2, round, round_at, rounds, sums, compressed, hashed, word_bytes, serialized, last_hash, sha256}
use Rattle.vectors.proofs.theorems.sha256_vectors_hold.Goals as goal

pub returns : goal.returns
unfolding add32 not32 shr rotr zeros_after length_bytes padding ch maj bsig0 bsig1 ssig0 ssig1 round_constants initial_hash word_at next_word block_words extended schedule temp1 temp2 round round_at rounds sums compressed hashed word_bytes serialized last_hash sha256 short_key key_block inner_pad outer_pad hmac
returns c = record { empty = refl; one = refl; two = refl; first = refl; second = refl; filled = refl }
