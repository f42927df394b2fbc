-- SHA-256 as RFC 6234 defines it, in the RFC's order: bytes and 32-bit words are numbers, and messages, blocks and hash values are lists of them.
-- Assumes nothing.
use Rattle.std.specs.Prelude.{ℕ, zero, suc, ◌+◌, ◌-◌, ◌*◌, ◌/◌, ◌%◌, ◌^◌, List, [], ◌∷◌, ◌++◌, length, take, drop, replicate, bit_and, bit_or, bit_xor, slice_index, slice_set}

-- 3, 2c: the sum of two words, modulo 2^32.
unfoldable pub add32 : ℕ → ℕ → ℕ
add32 x y = (x + y) % 2 ^ 32

-- 3, 2b: the complement of a word.
unfoldable pub not32 : ℕ → ℕ
not32 x = 2 ^ 32 - 1 - x

-- 3, 3: SHR^n(x), the word x shifted right by n bits.
unfoldable pub shr : ℕ → ℕ → ℕ
shr n x = x / 2 ^ n

-- 3, 4: ROTR^n(x), the word x turned right by n bits.
unfoldable pub rotr : ℕ → ℕ → ℕ
rotr n x = bit_or (x / 2 ^ n) ((x * 2 ^ (32 - n)) % 2 ^ 32)

-- 4.1: how many zero bytes follow the byte 128 that ends a message of n bytes: the fewest that leave room for eight in a block.
unfoldable pub zeros_after : ℕ → ℕ
zeros_after n = (119 - n % 64) % 64

-- 4.1: a number as eight bytes, the high one first.
unfoldable pub length_bytes : ℕ → List ℕ
length_bytes n =
    (n / 2 ^ 56 % 256) ∷ (n / 2 ^ 48 % 256) ∷ (n / 2 ^ 40 % 256) ∷ (n / 2 ^ 32 % 256)
    ∷ (n / 2 ^ 24 % 256) ∷ (n / 2 ^ 16 % 256) ∷ (n / 2 ^ 8 % 256) ∷ (n % 256) ∷ []

-- 4.1: what is put after a message of n bytes: a bit 1, zeros, and the message's length in bits.
unfoldable pub padding : ℕ → List ℕ
padding n = 128 ∷ (replicate (zeros_after n) 0 ++ length_bytes (8 * n))

-- 4.1: how many bytes the last blocks of a message of n bytes have: what is left of it, and the padding.
abbrev pub end_of : ℕ → ℕ
end_of n = n % 64 + (9 + zeros_after n)

-- 5.1: CH(x, y, z).
unfoldable pub ch : ℕ → ℕ → ℕ → ℕ
ch x y z = bit_xor (bit_and x y) (bit_and (not32 x) z)

-- 5.1: MAJ(x, y, z).
unfoldable pub maj : ℕ → ℕ → ℕ → ℕ
maj x y z = bit_xor (bit_xor (bit_and x y) (bit_and x z)) (bit_and y z)

-- 5.1: BSIG0(x).
unfoldable pub bsig0 : ℕ → ℕ
bsig0 x = bit_xor (bit_xor (rotr 2 x) (rotr 13 x)) (rotr 22 x)

-- 5.1: BSIG1(x).
unfoldable pub bsig1 : ℕ → ℕ
bsig1 x = bit_xor (bit_xor (rotr 6 x) (rotr 11 x)) (rotr 25 x)

-- 5.1: SSIG0(x).
unfoldable pub ssig0 : ℕ → ℕ
ssig0 x = bit_xor (bit_xor (rotr 7 x) (rotr 18 x)) (shr 3 x)

-- 5.1: SSIG1(x).
unfoldable pub ssig1 : ℕ → ℕ
ssig1 x = bit_xor (bit_xor (rotr 17 x) (rotr 19 x)) (shr 10 x)

-- 5.1: the constants K0 to K63.
unfoldable pub round_constants : List ℕ
round_constants =
    0x428a2f98 ∷ 0x71374491 ∷ 0xb5c0fbcf ∷ 0xe9b5dba5 ∷ 0x3956c25b ∷ 0x59f111f1 ∷ 0x923f82a4 ∷ 0xab1c5ed5
    ∷ 0xd807aa98 ∷ 0x12835b01 ∷ 0x243185be ∷ 0x550c7dc3 ∷ 0x72be5d74 ∷ 0x80deb1fe ∷ 0x9bdc06a7 ∷ 0xc19bf174
    ∷ 0xe49b69c1 ∷ 0xefbe4786 ∷ 0x0fc19dc6 ∷ 0x240ca1cc ∷ 0x2de92c6f ∷ 0x4a7484aa ∷ 0x5cb0a9dc ∷ 0x76f988da
    ∷ 0x983e5152 ∷ 0xa831c66d ∷ 0xb00327c8 ∷ 0xbf597fc7 ∷ 0xc6e00bf3 ∷ 0xd5a79147 ∷ 0x06ca6351 ∷ 0x14292967
    ∷ 0x27b70a85 ∷ 0x2e1b2138 ∷ 0x4d2c6dfc ∷ 0x53380d13 ∷ 0x650a7354 ∷ 0x766a0abb ∷ 0x81c2c92e ∷ 0x92722c85
    ∷ 0xa2bfe8a1 ∷ 0xa81a664b ∷ 0xc24b8b70 ∷ 0xc76c51a3 ∷ 0xd192e819 ∷ 0xd6990624 ∷ 0xf40e3585 ∷ 0x106aa070
    ∷ 0x19a4c116 ∷ 0x1e376c08 ∷ 0x2748774c ∷ 0x34b0bcb5 ∷ 0x391c0cb3 ∷ 0x4ed8aa4a ∷ 0x5b9cca4f ∷ 0x682e6ff3
    ∷ 0x748f82ee ∷ 0x78a5636f ∷ 0x84c87814 ∷ 0x8cc70208 ∷ 0x90befffa ∷ 0xa4506ceb ∷ 0xbef9a3f7 ∷ 0xc67178f2 ∷ []

-- 6.1: the initial hash value H(0).
unfoldable pub initial_hash : List ℕ
initial_hash = 0x6a09e667 ∷ 0xbb67ae85 ∷ 0x3c6ef372 ∷ 0xa54ff53a ∷ 0x510e527f ∷ 0x9b05688c ∷ 0x1f83d9ab ∷ 0x5be0cd19 ∷ []

-- 2: the t-th word of a block, its bytes high one first.
unfoldable pub word_at : List ℕ → ℕ → ℕ
word_at block t =
    slice_index block (4 * t) * 16777216 + slice_index block (4 * t + 1) * 65536 + slice_index block (4 * t + 2) * 256 + slice_index block (4 * t + 3)

-- 6.2, step 1: Wt of the message schedule, from the words before it.
unfoldable pub next_word : ℕ → List ℕ → List ℕ
next_word t w =
    slice_set w t (add32 (add32 (add32 (ssig1 (slice_index w (t - 2))) (slice_index w (t - 7))) (ssig0 (slice_index w (t - 15)))) (slice_index w (t - 16)))

-- 6.2, step 1: the first n words of the message schedule are the block's.
unfoldable pub block_words : ℕ → List ℕ → List ℕ
block_words zero block = replicate 64 0
block_words (suc t) block = slice_set (block_words t block) t (word_at block t)

-- 6.2, step 1: n words more, from W16 on.
unfoldable pub extended : ℕ → List ℕ → List ℕ
extended zero w = w
extended (suc n) w = next_word (16 + n) (extended n w)

-- 6.2, step 1: the message schedule of a block, W0 to W63.
unfoldable pub schedule : List ℕ → List ℕ
schedule block = extended 48 (block_words 16 block)

-- 6.2, step 3: T1, from the working variables, Kt and Wt.
unfoldable pub temp1 : List ℕ → ℕ → ℕ → ℕ
temp1 v k w = add32 (add32 (add32 (add32 (slice_index v 7) (bsig1 (slice_index v 4))) (ch (slice_index v 4) (slice_index v 5) (slice_index v 6))) k) w

-- 6.2, step 3: T2, from the working variables.
unfoldable pub temp2 : List ℕ → ℕ
temp2 v = add32 (bsig0 (slice_index v 0)) (maj (slice_index v 0) (slice_index v 1) (slice_index v 2))

-- 6.2, step 3: the working variables a to h after one round.
unfoldable pub round : List ℕ → ℕ → ℕ → List ℕ
round v k w =
    add32 (temp1 v k w) (temp2 v) ∷ slice_index v 0 ∷ slice_index v 1 ∷ slice_index v 2
    ∷ add32 (slice_index v 3) (temp1 v k w) ∷ slice_index v 4 ∷ slice_index v 5 ∷ slice_index v 6 ∷ []

-- 6.2, step 3: round t of a message schedule.
unfoldable pub round_at : ℕ → List ℕ → List ℕ → List ℕ
round_at t w v = round v (slice_index round_constants t) (slice_index w t)

-- 6.2, step 3: rounds 0 to n - 1.
unfoldable pub rounds : ℕ → List ℕ → List ℕ → List ℕ
rounds zero w v = v
rounds (suc t) w v = round_at t w (rounds t w v)

-- 6.2, step 4: the working variables added to the hash value.
unfoldable pub sums : List ℕ → List ℕ → List ℕ
sums h v =
    add32 (slice_index v 0) (slice_index h 0) ∷ add32 (slice_index v 1) (slice_index h 1) ∷ add32 (slice_index v 2) (slice_index h 2) ∷ add32 (slice_index v 3) (slice_index h 3)
    ∷ add32 (slice_index v 4) (slice_index h 4) ∷ add32 (slice_index v 5) (slice_index h 5) ∷ add32 (slice_index v 6) (slice_index h 6) ∷ add32 (slice_index v 7) (slice_index h 7) ∷ []

-- 6.2: the hash value after one more block.
unfoldable pub compressed : List ℕ → List ℕ → List ℕ
compressed h block = sums h (rounds 64 (schedule block) h)

-- 6.2: the hash value after n blocks more.
unfoldable pub hashed : ℕ → List ℕ → List ℕ → List ℕ
hashed zero h message = h
hashed (suc n) h message = hashed n (compressed h (take 64 message)) (drop 64 message)

-- 6.2: a word as four bytes, the high one first.
unfoldable pub word_bytes : ℕ → List ℕ
word_bytes w = (w / 16777216 % 256) ∷ (w / 65536 % 256) ∷ (w / 256 % 256) ∷ (w % 256) ∷ []

-- 6.2: the bytes of words, one word after the other.
unfoldable pub serialized : List ℕ → List ℕ
serialized [] = []
serialized (w ∷ ws) = word_bytes w ++ serialized ws

-- 6.2: the hash value after all blocks of the padded message.
unfoldable pub last_hash : List ℕ → List ℕ
last_hash message =
    hashed ((length message + length (padding (length message))) / 64) initial_hash (message ++ padding (length message))

-- 6.2: the SHA-256 of a message, as bytes.
unfoldable pub sha256 : List ℕ → List ℕ
sha256 message = serialized (last_hash message)
