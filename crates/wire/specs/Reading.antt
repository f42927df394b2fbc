-- How a word is read from bytes: by a gate's number, its keys with the others, and its talks. Assumes nothing.
use Rattle.std.specs.Prelude.{◌≡◌, ℕ, ◌+◌, ◌-◌, ◌^◌, Bool, true, false, cond, not, ◌&&◌, ◌||◌, List, [], ◌∷◌, ◌++◌, length, take, drop, is_some, Some, None, Ok, Err, Option, Result, ◌==◌, nat_lt, slice_index}
use Rattle.std.specs.Option.{option_map}
use Rattle.cipher.specs.ChaCha20.{encrypt}
use Rattle.protocol.specs.Kinds.{kind_byte, kind_of}
use Rattle.protocol.specs.Limits.{sum_length, seal_length, packet_limit}
use Rattle.protocol.specs.declared.kinds.Kind.{Kind}
use Rattle.protocol.specs.declared.kinds.Kind.TheVariants as kind
use Rattle.protocol.specs.declared.refusals.Refusal.{Refusal}
use Rattle.protocol.specs.declared.refusals.Refusal.TheVariants.{WrongGate, WrongSum, ZeroTag, NoTalk}
use Rattle.wire.specs.declared.state.Header.{Header}
use Rattle.wire.specs.declared.state.Header.TheVariants as header
use Rattle.wire.specs.declared.state.Opened.{Opened}
use Rattle.wire.specs.declared.state.Opened.TheVariants as opened
use Rattle.wire.specs.Layout.{maker_at, opener_at, drawn_at, tag_at, number_at, inside_at, nonce_length}
use Rattle.wire.specs.declared.state.PairKeys.{PairKeys}
use Rattle.wire.specs.declared.state.TalkKeys.{TalkKeys}
use Rattle.wire.specs.Keys.{turn_key, talk_key, sum_of, number_nonce, TalkHolds}
use Rattle.wire.specs.Numbers.{number8}
use Rattle.wire.specs.Words.{Word, Hello, Reply, Packet, Empty}

-- THE CLEAR BYTES

-- who made a word
abbrev pub maker_in : List ℕ → ℕ
maker_in w = slice_index w maker_at

-- for whom
abbrev pub opener_in : List ℕ → ℕ
opener_in w = slice_index w opener_at

-- the opener's tag, in kinds 3 and 4
abbrev pub tag_in : List ℕ → ℕ
tag_in w = number8 (take 8 (drop tag_at w))

-- the number, in kinds 3 and 4
abbrev pub number_in : List ℕ → ℕ
number_in w = number8 (take 8 (drop number_at w))

-- the nonce of kinds 1 and 2: the first of the drawn bytes
abbrev pub nonce_in : List ℕ → List ℕ
nonce_in w = take nonce_length (drop drawn_at w)

-- what the clear bytes of a word of a kind say; a tag of 0 is refused
abbrev pub fields_in : List ℕ → Kind → Result Header Refusal
fields_in w kind.Hello = Ok (header.Hello (maker_in w))
fields_in w kind.Reply = Ok (header.Reply (maker_in w))
fields_in w kind.Packet = cond (tag_in w == 0) (Err ZeroTag) (Ok (header.Packet (maker_in w) (tag_in w) (number_in w)))
fields_in w kind.Empty = cond (tag_in w == 0) (Err ZeroTag) (Ok (header.Empty (maker_in w) (tag_in w) (number_in w)))

-- the clear bytes of a word for gate `own`, by a gate that is there
abbrev pub header_as : (own : ℕ) → (ℕ → Bool) → List ℕ → Result Kind Refusal → Result Header Refusal
header_as own there w (Err e) = Err e
header_as own there w (Ok k) = cond (opener_in w == own && there (maker_in w)) (fields_in w k) (Err WrongGate)

-- the clear bytes of any bytes
abbrev pub header_in : (own : ℕ) → (ℕ → Bool) → List ℕ → Result Header Refusal
header_in own there w = header_as own there w (kind_of w)

-- of so many gates another one than `own`
abbrev pub another : (own gates : ℕ) → ℕ → Bool
another own gates a = nat_lt a gates && not (a == own)

-- THE SUM AND THE INSIDE

-- all before the sum
abbrev pub body_in : List ℕ → List ℕ
body_in w = take (length w - sum_length) w

-- the sum
abbrev pub sum_in : List ℕ → List ℕ
sum_in w = drop (length w - sum_length) w

-- what is between the clear bytes and the sum
abbrev pub inside_in : List ℕ → List ℕ
inside_in w = take (length w - seal_length) (drop inside_at w)

-- whether two lists of bytes are the same
unfoldable pub same : List ℕ → List ℕ → Bool
same [] [] = true
same [] (y ∷ ys) = false
same (x ∷ xs) [] = false
same (x ∷ xs) (y ∷ ys) = x == y && same xs ys

-- Whether the sum is right. SHA-256 is defined below 2^64 bits: with the key's block of 64 bytes and the byte before the body, no longer word has a sum.
unfoldable pub sum_right : List ℕ → List ℕ → Bool
sum_right key w = nat_lt (65 + length (body_in w)) (2 ^ 61) && same (sum_in w) (sum_of key (body_in w))

-- the inside of a word of a kind from gate a for gate e, under a key, turned back
unfoldable pub inside_under : (key : List ℕ) (k : Kind) (a e : ℕ) (nonce : List ℕ) → List ℕ → List ℕ
inside_under key k a e nonce w = encrypt (turn_key key (kind_byte k) a e) 0 nonce (inside_in w)

-- READING A WORD

-- the two numbers inside a hello or a reply
abbrev pub first_in : List ℕ → ℕ
first_in inside = number8 (take 8 inside)

abbrev pub second_in : List ℕ → ℕ
second_in inside = number8 (take 8 (drop 8 inside))

-- a hello or a reply by what is inside; a tag of 0 is refused
abbrev pub hello_as : (a own : ℕ) → List ℕ → Result Word Refusal
hello_as a own x = cond (first_in x == 0) (Err ZeroTag) (Ok (Hello a own (first_in x) (second_in x)))

abbrev pub reply_as : (a own : ℕ) → List ℕ → Result Word Refusal
reply_as a own x = cond (first_in x == 0 || second_in x == 0) (Err ZeroTag) (Ok (Reply a own (first_in x) (second_in x)))

-- what is read where the sum is right under a key
abbrev pub summed : (key w : List ℕ) → Result Word Refusal → Result Word Refusal
summed key w r = cond (sum_right key w) r (Err WrongSum)

-- a hello or a reply under the pair's key
unfoldable pub hello_under : (own a : ℕ) (w key : List ℕ) → Result Word Refusal
hello_under own a w key = summed key w (hello_as a own (inside_under key kind.Hello a own (nonce_in w) w))

unfoldable pub reply_under : (own a : ℕ) (w key : List ℕ) → Result Word Refusal
reply_under own a w key = summed key w (reply_as a own (inside_under key kind.Reply a own (nonce_in w) w))

-- a packet or an empty one under the key of its talk, which the maker's tag m and the opener's h name
unfoldable pub packet_under : (own a h n : ℕ) (w key : List ℕ) (m : ℕ) → Result Word Refusal
packet_under own a h n w key m = summed key w (Ok (Packet a own m h n (inside_under key kind.Packet a own (number_nonce n) w)))

unfoldable pub empty_under : (own a h n : ℕ) (w key : List ℕ) (m : ℕ) → Result Word Refusal
empty_under own a h n w key m = summed key w (Ok (Empty a own m h n))

-- what is read under a pair's key, if there is one
abbrev pub with_pair : Option (List ℕ) → (List ℕ → Result Word Refusal) → Result Word Refusal
with_pair None read = Err WrongGate
with_pair (Some key) read = read key

-- what is read in a talk by the maker's tag, if there is one
abbrev pub with_talk : Option ℕ → (ℕ → Result Word Refusal) → Result Word Refusal
with_talk None read = Err NoTalk
with_talk (Some m) read = read m

-- a gate's keys with the others: none with a gate that isn't there, or with itself
abbrev pub Keys : Type 0
Keys = ℕ → Option (List ℕ)

-- a gate's talks: the maker's tag by the opener's tag and the maker, if there is such a talk and it isn't over
abbrev pub Talks : Type 0
Talks = ℕ → ℕ → Option ℕ

-- a word by its clear bytes
abbrev pub read_by : (own : ℕ) → Keys → Talks → List ℕ → Result Header Refusal → Result Word Refusal
read_by own keys talks w (Err e) = Err e
read_by own keys talks w (Ok (header.Hello a)) = with_pair (keys a) (hello_under own a w)
read_by own keys talks w (Ok (header.Reply a)) = with_pair (keys a) (reply_under own a w)
read_by own keys talks w (Ok (header.Packet a h n)) =
    with_pair (keys a) (λ pair. with_talk (talks h a) (λ m. packet_under own a h n w (talk_key pair m h) m))
read_by own keys talks w (Ok (header.Empty a h n)) =
    with_pair (keys a) (λ pair. with_talk (talks h a) (λ m. empty_under own a h n w (talk_key pair m h) m))

-- THE WORD that bytes are, as gate `own` reads them, or the refusal.
unfoldable pub read_word : (own : ℕ) → Keys → Talks → List ℕ → Result Word Refusal
read_word own keys talks w = read_by own keys talks w (header_in own (λ a. is_some (keys a)) w)

-- WHAT ONE PAIR'S KEYS AND ONE TALK'S READ

-- the key with one gate
abbrev pub one_key : ℕ → List ℕ → Keys
one_key peer key a = cond (a == peer) (Some key) None

-- the talk's keys, if there are any and their own tag is this one
abbrev pub named_by : Option TalkKeys → ℕ → Option TalkKeys
named_by None h = None
named_by (Some t) h = cond (t.mine == h) (Some t) None

-- at most one talk
abbrev pub one_talk : Option TalkKeys → Talks
one_talk talk h a = option_map (λ t. t.theirs) (named_by talk h)

-- the talk's keys, if there are any, are kept of a talk of this pair's
abbrev pub TalkOf : PairKeys → List ℕ → Option TalkKeys → Type 0
TalkOf p key None = Unit {0}
TalkOf p key (Some t) = TalkHolds t key × (t.side.own ≡ p.side.own) × (t.side.peer ≡ p.side.peer)

-- WHAT OPENING ANSWERS AND LEAVES

-- a word whose inside is longer than any packet
abbrev pub too_long : List ℕ → Bool
too_long x = nat_lt packet_limit (length x)

-- what is told of a word that was read
abbrev pub told_of : Word → Opened
told_of (Hello a e t n) = opened.Hello t n
told_of (Reply a e t n) = opened.Reply t n
told_of (Packet a e m h n x) = cond (too_long x) (opened.Oversize n) (opened.Packet n)
told_of (Empty a e m h n) = opened.Empty n

abbrev pub told : Result Word Refusal → Result Opened Refusal
told (Ok x) = Ok (told_of x)
told (Err e) = Err e

-- what is left in the lent bytes: a packet that can pass stands in them deciphered; all else leaves them as they were
abbrev pub left_of : List ℕ → Word → List ℕ
left_of w (Hello a e t n) = w
left_of w (Reply a e t n) = w
left_of w (Packet a e m h n x) = cond (too_long x) w (take inside_at w ++ (x ++ drop (length w - sum_length) w))
left_of w (Empty a e m h n) = w

abbrev pub left : List ℕ → Result Word Refusal → List ℕ
left w (Ok x) = left_of w x
left w (Err e) = w
