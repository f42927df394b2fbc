-- The bytes of each word. Assumes nothing.
use Rattle.std.specs.Prelude.{ℕ, List, [], ◌∷◌, ◌++◌, take}
use Rattle.cipher.specs.ChaCha20.{encrypt}
use Rattle.protocol.specs.Kinds.{kind_byte}
use Rattle.protocol.specs.declared.kinds.Kind.{Kind}
use Rattle.protocol.specs.declared.kinds.Kind.TheVariants as kind
use Rattle.wire.specs.Layout.{nonce_length}
use Rattle.wire.specs.Keys.{turn_key, talk_key, sum_of, number_nonce}
use Rattle.wire.specs.Numbers.{bytes8}

-- What a word says (a datagram on the outer network): who made it, for whom, and what is sealed in it.
pub data Word : Type 0 where
  -- a tag drawn for it, and the maker's tick
  Hello : (by for' tag tick : ℕ) → Word
  -- a tag drawn for it, and the tag that it replies to
  Reply : (by for' tag asked : ℕ) → Word
  -- the maker's tag and the opener's, a number, and the packet
  Packet : (by for' by_tag for_tag number : ℕ) → List ℕ → Word
  -- the same, with nothing inside
  Empty : (by for' by_tag for_tag number : ℕ) → Word

-- all that stands in clear: kind, maker, opener and 16 bytes
abbrev pub clear : Kind → (a e : ℕ) → List ℕ → List ℕ
clear k a e field = kind_byte k ∷ a ∷ e ∷ field

-- what stands before a sum, and the sum: the inside is turned from counter 0 on
unfoldable pub sealed_by : (key turning head nonce inside : List ℕ) → List ℕ
sealed_by key turning head nonce inside =
    let body = head ++ encrypt turning 0 nonce inside in
    body ++ sum_of key body

-- a word of a kind from gate a for gate e, under a key
abbrev pub sealed : (key : List ℕ) (k : Kind) (a e : ℕ) (field nonce inside : List ℕ) → List ℕ
sealed key k a e field nonce inside = sealed_by key (turn_key key (kind_byte k) a e) (clear k a e field) nonce inside

-- The bytes of a word, under its pair's key; for kinds 1 and 2 with 16 drawn bytes, which the others don't have.
abbrev pub bytes_of : (pair drawn : List ℕ) → Word → List ℕ
bytes_of pair drawn (Hello a e t n) = sealed pair kind.Hello a e drawn (take nonce_length drawn) (bytes8 t ++ bytes8 n)
bytes_of pair drawn (Reply a e t n) = sealed pair kind.Reply a e drawn (take nonce_length drawn) (bytes8 t ++ bytes8 n)
bytes_of pair drawn (Packet a e m h n x) = sealed (talk_key pair m h) kind.Packet a e (bytes8 h ++ bytes8 n) (number_nonce n) x
bytes_of pair drawn (Empty a e m h n) = sealed (talk_key pair m h) kind.Empty a e (bytes8 h ++ bytes8 n) (number_nonce n) []
