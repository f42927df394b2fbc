-- ChaCha20 as RFC 8439 defines it, in the RFC's order: bytes and 32-bit words are numbers, and texts and states are lists of them.
-- Assumes nothing.
use Rattle.std.specs.Prelude.{ℕ, zero, suc, ◌+◌, ◌-◌, ◌*◌, ◌/◌, ◌%◌, ◌^◌, List, [], ◌∷◌, ◌++◌, length, bit_or, bit_xor, slice_index, slice_set}
use Rattle.std.specs.Simd.Lanes.{zip2}

-- 2.1: the sum of two words, modulo 2^32.
unfoldable pub add32 : ℕ → ℕ → ℕ
add32 a b = (a + b) % 2 ^ 32

-- 2.1: `x <<< n`, the word x turned left by n bits.
unfoldable pub turn_left : ℕ → ℕ → ℕ
turn_left n x = bit_or ((x * 2 ^ n) % 2 ^ 32) (x / 2 ^ (32 - n))

-- 2.1: `a += b` on the words at places a and b of a state.
unfoldable pub add_word : ℕ → ℕ → List ℕ → List ℕ
add_word a b s = slice_set s a (add32 (slice_index s a) (slice_index s b))

-- 2.1: `d ^= a; d <<<= n` on the words at places d and a of a state.
unfoldable pub turn_word : ℕ → ℕ → ℕ → List ℕ → List ℕ
turn_word d a n s = slice_set s d (turn_left n (bit_xor (slice_index s d) (slice_index s a)))

-- 2.1: one line of the quarter round, `a += b; d ^= a; d <<<= n`.
unfoldable pub line : ℕ → ℕ → ℕ → ℕ → List ℕ → List ℕ
line a b d n s = turn_word d a n (add_word a b s)

-- 2.1 and 2.2: QUARTERROUND(a, b, c, d), the four lines on the words at these places of a state.
unfoldable pub quarter_round : ℕ → ℕ → ℕ → ℕ → List ℕ → List ℕ
quarter_round a b c d s = line c d b 7 (line a b d 8 (line c d b 12 (line a b d 16 s)))

-- 2.3: a round over the columns of the state.
unfoldable pub column_round : List ℕ → List ℕ
column_round s = quarter_round 3 7 11 15 (quarter_round 2 6 10 14 (quarter_round 1 5 9 13 (quarter_round 0 4 8 12 s)))

-- 2.3: a round over the diagonals of the state.
unfoldable pub diagonal_round : List ℕ → List ℕ
diagonal_round s = quarter_round 3 4 9 14 (quarter_round 2 7 8 13 (quarter_round 1 6 11 12 (quarter_round 0 5 10 15 s)))

-- 2.3.1: inner_block, a column round and then a diagonal round.
unfoldable pub inner_block : List ℕ → List ℕ
inner_block s = diagonal_round (column_round s)

-- 2.3.1: inner_block n times.
unfoldable pub inner_blocks : ℕ → List ℕ → List ℕ
inner_blocks zero s = s
inner_blocks (suc n) s = inner_block (inner_blocks n s)

-- 2.3: the i-th word of a text, its bytes in little-endian order.
unfoldable pub word_at : List ℕ → ℕ → ℕ
word_at bytes i = slice_index bytes (4 * i) + slice_index bytes (4 * i + 1) * 256 + slice_index bytes (4 * i + 2) * 65536 + slice_index bytes (4 * i + 3) * 16777216

-- 2.3: the state that a block starts from: four constants, the key, the block counter, which is a 32-bit number, and the nonce.
unfoldable pub start_state : List ℕ → ℕ → List ℕ → List ℕ
start_state key counter nonce =
    0x61707865 ∷ 0x3320646e ∷ 0x79622d32 ∷ 0x6b206574
    ∷ word_at key 0 ∷ word_at key 1 ∷ word_at key 2 ∷ word_at key 3
    ∷ word_at key 4 ∷ word_at key 5 ∷ word_at key 6 ∷ word_at key 7
    ∷ counter % 2 ^ 32 ∷ word_at nonce 0 ∷ word_at nonce 1 ∷ word_at nonce 2 ∷ []

-- 2.3: a word as four bytes in little-endian order.
unfoldable pub word_bytes : ℕ → List ℕ
word_bytes w = (w % 256) ∷ (w / 256 % 256) ∷ (w / 65536 % 256) ∷ (w / 16777216 % 256) ∷ []

-- 2.3: the bytes of words, one word after the other.
unfoldable pub serialized : List ℕ → List ℕ
serialized [] = []
serialized (w ∷ ws) = word_bytes w ++ serialized ws

-- 2.3: the block of a start state: ten inner blocks, that is 20 rounds, added to the start state, as bytes.
unfoldable pub block_of : List ℕ → List ℕ
block_of s = serialized (zip2 add32 (inner_blocks 10 s) s)

-- 2.3: chacha20_block, 64 bytes.
unfoldable pub block : List ℕ → ℕ → List ℕ → List ℕ
block key counter nonce = block_of (start_state key counter nonce)

-- 2.4: n blocks in a row, from a counter on.
unfoldable pub keystream : List ℕ → ℕ → List ℕ → ℕ → List ℕ
keystream key counter nonce zero = []
keystream key counter nonce (suc n) = block key counter nonce ++ keystream key (counter + 1) nonce n

-- 2.4: how many blocks a text of n bytes takes, a last part of a block too.
abbrev pub blocks_for : ℕ → ℕ
blocks_for n = (n + 63) / 64

-- 2.4: chacha20_encrypt: each byte of the text xor the byte of the key stream at its place.
unfoldable pub encrypt : List ℕ → ℕ → List ℕ → List ℕ → List ℕ
encrypt key counter nonce text = zip2 bit_xor text (keystream key counter nonce (blocks_for (length text)))
