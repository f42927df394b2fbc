-- The keys of words: what is derived from a pair's key, and what it means that a gate keeps them. Assumes nothing.
use Rattle.std.specs.Prelude.{◌≡◌, ℕ, min, max, List, [], ◌∷◌, ◌++◌, take, replicate}
use Rattle.digest.specs.Hashers.{Prepared}
use Rattle.digest.specs.Hmac.{hmac}
use Rattle.protocol.specs.Kinds.{kind_byte}
use Rattle.protocol.specs.Limits.{sum_length}
use Rattle.protocol.specs.declared.kinds.Kind.{Kind}
use Rattle.protocol.specs.declared.kinds.Kind.TheVariants.{Hello, Reply, Packet}
use Rattle.wire.specs.declared.state.PairKeys.{PairKeys}
use Rattle.wire.specs.declared.state.TalkKeys.{TalkKeys}
use Rattle.wire.specs.declared.state.Ways.{Ways}
use Rattle.wire.specs.Layout.{sum_mark}
use Rattle.wire.specs.Numbers.{bytes8}

-- the cipher's key for words of kind k from gate a for gate e
unfoldable pub turn_key : List ℕ → (k a e : ℕ) → List ℕ
turn_key key k a e = hmac key (k ∷ a ∷ e ∷ [])

-- the key of a talk: both tags, the smaller first, under the pair's key
unfoldable pub talk_key : List ℕ → (s t : ℕ) → List ℕ
talk_key pair s t = hmac pair (bytes8 (min s t) ++ bytes8 (max s t))

-- the sum of all that stands before it
unfoldable pub sum_of : List ℕ → List ℕ → List ℕ
sum_of key bytes = take sum_length (hmac key (sum_mark ∷ bytes))

-- the nonce of a number in a talk
abbrev pub number_nonce : ℕ → List ℕ
number_nonce n = replicate 4 0 ++ bytes8 n

-- the cipher's keys for words of a kind, out to the other gate and back from it
abbrev pub ways_of : List ℕ → Kind → (own peer : ℕ) → Ways
ways_of key k own peer = record { out = turn_key key (kind_byte k) own peer; back = turn_key key (kind_byte k) peer own }

-- What is kept of a pair's key is what deriving anew gives.
pub record PairHolds (p : PairKeys) (key : List ℕ) : Type 0 where
  pub hash : Prepared p.side.hash key
  pub hello : p.hello ≡ ways_of key Hello p.side.own p.side.peer
  pub reply : p.reply ≡ ways_of key Reply p.side.own p.side.peer

-- What is kept of a talk's keys, under the pair's key, is what deriving anew gives. Empty words have nothing inside to turn.
pub record TalkHolds (t : TalkKeys) (pair : List ℕ) : Type 0 where
  pub hash : Prepared t.side.hash (talk_key pair t.mine t.theirs)
  pub packet : t.packet ≡ ways_of (talk_key pair t.mine t.theirs) Packet t.side.own t.side.peer
