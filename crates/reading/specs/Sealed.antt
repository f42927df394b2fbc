-- What holds of the bytes of words and of reading them, under any keys. Each statement is a type; its proof is the theorem.
-- Assumes nothing.
use Rattle.std.specs.Prelude.{◌≡◌, ℕ, ◌+◌, ◌^◌, ◌<◌, true, List, length, Some, Ok, ◌≢◌}
use Rattle.protocol.specs.Kinds.{length_fits}
use Rattle.protocol.specs.Limits.{field_length, seal_length, handshake_length}
use Rattle.protocol.specs.declared.kinds.Kind.{Kind}
use Rattle.protocol.specs.declared.kinds.Kind.TheVariants as kind
use Rattle.wire.specs.Words.{Word, Hello, Reply, Packet, Empty, bytes_of}
use Rattle.wire.specs.Reading.{Keys, Talks, maker_in, tag_in, read_word}

-- who made a word, for whom, and of which kind it is
abbrev pub by_of : Word → ℕ
by_of (Hello a e t n) = a
by_of (Reply a e t n) = a
by_of (Packet a e m h n x) = a
by_of (Empty a e m h n) = a

abbrev pub for_of : Word → ℕ
for_of (Hello a e t n) = e
for_of (Reply a e t n) = e
for_of (Packet a e m h n x) = e
for_of (Empty a e m h n) = e

abbrev pub sort_of : Word → Kind
sort_of (Hello a e t n) = kind.Hello
sort_of (Reply a e t n) = kind.Reply
sort_of (Packet a e m h n x) = kind.Packet
sort_of (Empty a e m h n) = kind.Empty

-- the numbers of a word fit their 8 bytes, and a packet has fewer than 2^60
abbrev pub Fits : Word → Type 0
Fits (Hello a e t n) = (t < 2 ^ 64) × (n < 2 ^ 64)
Fits (Reply a e t n) = (t < 2 ^ 64) × (n < 2 ^ 64)
Fits (Packet a e m h n x) = (h < 2 ^ 64) × (n < 2 ^ 64) × (length x < 2 ^ 60)
Fits (Empty a e m h n) = (h < 2 ^ 64) × (n < 2 ^ 64)

-- no tag that stands in the word is 0
abbrev pub NoZero : Word → Type 0
NoZero (Hello a e t n) = t ≡ 0 → ⊥
NoZero (Reply a e t n) = (t ≢ 0) × (n ≢ 0)
NoZero (Packet a e m h n x) = h ≡ 0 → ⊥
NoZero (Empty a e m h n) = h ≡ 0 → ⊥

-- a gate can open the word: it is for this gate, which has this key with its maker, and the talk
pub record Handed (own : ℕ) (keys : Keys) (pair : List ℕ) (a e : ℕ) : Type 0 where
  pub opener : e ≡ own
  pub key : keys a ≡ Some pair

abbrev pub Knows : (own : ℕ) → Keys → Talks → List ℕ → Word → Type 0
Knows own keys talks pair (Hello a e t n) = Handed own keys pair a e
Knows own keys talks pair (Reply a e t n) = Handed own keys pair a e
Knows own keys talks pair (Packet a e m h n x) = Handed own keys pair a e × (talks h a ≡ Some m)
Knows own keys talks pair (Empty a e m h n) = Handed own keys pair a e × (talks h a ≡ Some m)

-- READING WHAT WAS SEALED GIVES THE WORD BACK, where the gate can open it.
abbrev pub ReadsBack : Type 0
ReadsBack =
    (own : ℕ) (keys : Keys) (talks : Talks) (pair drawn : List ℕ) (x : Word) → length drawn ≡ field_length → Fits x → NoZero x → Knows own keys talks pair x
    → read_word own keys talks (bytes_of pair drawn x) ≡ Ok x

-- EVERY SEALED WORD HAS ITS KIND'S LENGTH.
abbrev pub long_of : Word → ℕ
long_of (Hello a e t n) = handshake_length
long_of (Reply a e t n) = handshake_length
long_of (Packet a e m h n x) = seal_length + length x
long_of (Empty a e m h n) = seal_length

abbrev pub Lengths : Type 0
Lengths =
    (pair drawn : List ℕ) (x : Word) → length drawn ≡ field_length
    → (length (bytes_of pair drawn x) ≡ long_of x) × (length_fits (sort_of x) (length (bytes_of pair drawn x)) ≡ true)

-- WHO AND FOR WHOM: a sealed word that reads has the kind, the maker and the opener that it was sealed with, whatever it is read under.
abbrev pub Gates : Type 0
Gates =
    (own : ℕ) (keys : Keys) (talks : Talks) (pair drawn : List ℕ) (x y : Word) → read_word own keys talks (bytes_of pair drawn y) ≡ Ok x
    → (sort_of x ≡ sort_of y) × (by_of x ≡ by_of y) × (for_of x ≡ for_of y)

-- READING LOOKS AT ONE KEY AND ONE TALK: the maker's, and the one that the tag names.
abbrev pub Local : Type 0
Local =
    (own : ℕ) (keys keys' : Keys) (talks talks' : Talks) (w : List ℕ) → keys (maker_in w) ≡ keys' (maker_in w) → talks (tag_in w) (maker_in w) ≡ talks' (tag_in w) (maker_in w)
    → read_word own keys talks w ≡ read_word own keys' talks' w
