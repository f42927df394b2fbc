-- The definitions of SHA-256, which stand in the crate `sha`.
-- Assumes nothing.
unfoldable pub use Rattle.sha.specs.Sha256.{add32, not32, shr, rotr, zeros_after, length_bytes, padding, ch, maj, bsig0, bsig1, ssig0, ssig1, round_constants, initial_hash, word_at, next_word, block_words, extended, schedule, temp1, temp2, round, round_at, rounds, sums, compressed, hashed, word_bytes, serialized, last_hash, sha256}
pub use Rattle.sha.specs.Sha256.{end_of}
