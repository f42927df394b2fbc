-- The kinds of words, their bytes and lengths, and which bytes are a word of which kind. Assumes nothing.
use Rattle.std.specs.Prelude.{◌≡◌, ◌≢◌, ℕ, Bool, true, cond, ◌&&◌, List, length, Ok, Err, Result, MatchResult, ◌==◌, nat_le, slice_index}
use Rattle.protocol.specs.declared.kinds.Kind.{Kind}
use Rattle.protocol.specs.declared.kinds.Kind.TheVariants.{Hello, Reply, Packet, Empty}
use Rattle.protocol.specs.declared.refusals.Refusal.{Refusal}
use Rattle.protocol.specs.declared.refusals.Refusal.TheVariants.{UnknownWord}
use Rattle.protocol.specs.Limits.{seal_length, handshake_length}

-- the byte with which the words of a kind begin
abbrev pub kind_byte : Kind → ℕ
kind_byte Hello = 1
kind_byte Reply = 2
kind_byte Packet = 3
kind_byte Empty = 4

-- a byte is that of a kind
abbrev pub HasByte : Kind → ℕ → Type 0
HasByte k byte = byte ≡ kind_byte k

-- what is found of a byte: the kind that has it, or the refusal of a byte that no kind has
abbrev pub IsKindOf : ℕ → Result Kind Refusal → Type 0
IsKindOf byte found =
    MatchResult found (λ k. kind_byte k ≡ byte) (λ e. (e ≡ UnknownWord) × ((k : Kind) → kind_byte k ≢ byte))

-- whether a word of a kind can have this length
abbrev pub length_fits : Kind → ℕ → Bool
length_fits Hello n = n == handshake_length
length_fits Reply n = n == handshake_length
length_fits Packet n = nat_le seal_length n
length_fits Empty n = n == seal_length

-- whether these bytes are a word of this kind: they begin with its byte and have a length of its own
abbrev pub is_word : Kind → List ℕ → Bool
is_word k w = slice_index w 0 == kind_byte k && length_fits k (length w)

-- these bytes are a word of this kind
abbrev pub IsWord : Kind → List ℕ → Type 0
IsWord k w = is_word k w ≡ true

-- the kind of a word, or the refusal of bytes that are a word of no kind; its laws are in proofs/Words
unfoldable pub kind_of : List ℕ → Result Kind Refusal
kind_of w =
    cond (is_word Hello w) (Ok Hello) (cond (is_word Reply w) (Ok Reply) (cond (is_word Packet w) (Ok Packet) (cond (is_word Empty w) (Ok Empty) (Err UnknownWord))))
