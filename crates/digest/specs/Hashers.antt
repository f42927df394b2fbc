-- What a hasher, a prepared key and a message code in the making stand for.
-- Assumes nothing.
use Rattle.std.specs.Prelude.{◌≡◌, ℕ, ◌+◌, ◌*◌, ◌^◌, ◌<◌, cond, List, ◌++◌, length, take, Ok, Err, Result, nat_lt}
use Rattle.digest.specs.declared.state.Fault.{Fault}
use Rattle.digest.specs.declared.state.Fault.TheVariants.{TooLong}
use Rattle.digest.specs.declared.state.Hasher.{Hasher}
use Rattle.digest.specs.declared.state.Key.{Key}
use Rattle.digest.specs.declared.state.Mac.{Mac}
use Rattle.digest.specs.Hmac.{inner_pad, outer_pad}
use Rattle.digest.specs.Sha256.{initial_hash, compressed, hashed}

-- A hasher holds a message: its state is the hash value after the message's whole blocks, and the rest, less than a block, stands in its buffer.
pub record Holds (h : Hasher) (message : List ℕ) : Type 0 where
  pub blocks : ℕ
  pub front : List ℕ
  pub rest : List ℕ
  pub joined : message ≡ front ++ rest
  pub whole : length front ≡ 64 * blocks
  pub few : length rest < 64
  pub state : h.state ≡ hashed blocks initial_hash front
  pub buffer : take (length rest) h.block ≡ rest
  pub total : h.total ≡ length message

-- A hasher has taken a part more: it counts the part, and holds it after each message that it held.
pub record Absorbs (before after : Hasher) (part : List ℕ) : Type 0 where
  pub total : after.total ≡ before.total + length part
  pub holds : (message : List ℕ) → Holds before message → Holds after (message ++ part)

-- RFC 6234, 4: a message has fewer than 2^64 bits. What is longer is refused.
abbrev pub limited : {T : Type 0} → ℕ → T → Result T Fault
limited n value = cond (nat_lt n (2 ^ 61)) (Ok value) (Err TooLong)

-- A prepared key of 32 bytes: the hash values after the two padded key blocks.
pub record Prepared (k : Key) (key : List ℕ) : Type 0 where
  pub long : length key ≡ 32
  pub inner : k.inner ≡ compressed initial_hash (inner_pad key)
  pub outer : k.outer ≡ compressed initial_hash (outer_pad key)

-- A message code in the making has taken a message under a key of 32 bytes.
pub record Taken (m : Mac) (key : List ℕ) (message : List ℕ) : Type 0 where
  pub long : length key ≡ 32
  pub inner : Holds m.inner (inner_pad key ++ message)
  pub outer : m.outer ≡ compressed initial_hash (outer_pad key)
