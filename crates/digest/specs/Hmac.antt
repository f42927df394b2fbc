-- HMAC-SHA-256 as RFC 6234, 8, and RFC 2104, 2, define it.
-- Assumes nothing.
use Rattle.std.specs.Prelude.{ℕ, ◌-◌, cond, List, ◌++◌, map, length, replicate, bit_xor, nat_lt}
use Rattle.digest.specs.Sha256.{sha256}

-- RFC 2104, 2: a key that is longer than a block is hashed first.
unfoldable pub short_key : List ℕ → List ℕ
short_key key = cond (nat_lt 64 (length key)) (sha256 key) key

-- RFC 2104, 2, step 1: zeros after the key, up to the length of a block.
unfoldable pub key_block : List ℕ → List ℕ
key_block key = short_key key ++ replicate (64 - length (short_key key)) 0

-- RFC 2104, 2, step 2: K XOR ipad, each byte of which is 0x36.
unfoldable pub inner_pad : List ℕ → List ℕ
inner_pad key = map (λ b. bit_xor b 0x36) (key_block key)

-- RFC 2104, 2, step 5: K XOR opad, each byte of which is 0x5c.
unfoldable pub outer_pad : List ℕ → List ℕ
outer_pad key = map (λ b. bit_xor b 0x5c) (key_block key)

-- RFC 2104, 2: H(K XOR opad, H(K XOR ipad, text)).
unfoldable pub hmac : List ℕ → List ℕ → List ℕ
hmac key text = sha256 (outer_pad key ++ sha256 (inner_pad key ++ text))
