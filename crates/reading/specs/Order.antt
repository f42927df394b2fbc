-- Why bytes are refused: each fault by itself, and which of them is answered. Assumes nothing.
use Rattle.std.specs.Prelude.{◌≡◌, ℕ, Bool, false, cond, not, ◌&&◌, ◌||◌, List, [], ◌∷◌, is_some, Some, None, Option, ◌==◌, slice_index}
use Rattle.std.specs.Option.{unwrap_or}
use Rattle.std.specs.Result.{result_err}
use Rattle.protocol.specs.Kinds.{kind_byte, is_word}
use Rattle.protocol.specs.declared.kinds.Kind.TheVariants as kind
use Rattle.protocol.specs.declared.refusals.Refusal.{Refusal}
use Rattle.protocol.specs.declared.refusals.Refusal.TheVariants.{UnknownWord, WrongGate, WrongSum, ZeroTag, OldHello, UnaskedReply, NoTalk, BelowWindow, RepeatedNumber, BadPacket, ForeignAddress, NoRoute, QueueFull, NoDrawnBytes, BadSettings}
use Rattle.wire.specs.Keys.{talk_key}
use Rattle.wire.specs.Reading.{Keys, Talks, maker_in, opener_in, tag_in, nonce_in, sum_right, inside_under, first_in, second_in, read_word}

-- whether bytes begin as a hello, and whether as a hello or a reply
abbrev pub is_hello : List ℕ → Bool
is_hello w = slice_index w 0 == kind_byte kind.Hello

abbrev pub is_handshake : List ℕ → Bool
is_handshake w = is_hello w || slice_index w 0 == kind_byte kind.Reply

-- the key of the pair, and of the talk, that the bytes name
abbrev pub pair_of : Keys → List ℕ → List ℕ
pair_of keys w = unwrap_or (keys (maker_in w)) []

abbrev pub talk_of : Keys → Talks → List ℕ → List ℕ
talk_of keys talks w = talk_key (pair_of keys w) (unwrap_or (talks (tag_in w) (maker_in w)) 0) (tag_in w)

-- 1: the bytes are a word of no kind
abbrev pub unknown : List ℕ → Bool
unknown w = not (is_word kind.Hello w || (is_word kind.Reply w || (is_word kind.Packet w || is_word kind.Empty w)))

-- 2: they are for another gate, or by none with which there is a key
abbrev pub wrong_gate : ℕ → Keys → List ℕ → Bool
wrong_gate own keys w = not (opener_in w == own && is_some (keys (maker_in w)))

-- 3: the sum isn't right, under the pair's key or the talk's
abbrev pub wrong_sum : Keys → Talks → List ℕ → Bool
wrong_sum keys talks w = not (sum_right (cond (is_handshake w) (pair_of keys w) (talk_of keys talks w)) w)

-- 4: a tag is 0: inside a hello or a reply, in clear in the others
abbrev pub zero_tag : ℕ → Keys → List ℕ → Bool
zero_tag own keys w =
    cond (is_hello w) (first_in (inside_under (pair_of keys w) kind.Hello (maker_in w) own (nonce_in w) w) == 0)
    (cond (is_handshake w)
    (first_in (inside_under (pair_of keys w) kind.Reply (maker_in w) own (nonce_in w) w) == 0
    || second_in (inside_under (pair_of keys w) kind.Reply (maker_in w) own (nonce_in w) w) == 0)
    (tag_in w == 0))

-- 7: there is no such talk
abbrev pub no_talk : Talks → List ℕ → Bool
no_talk talks w = not (is_some (talks (tag_in w) (maker_in w)))

-- whether the bytes have this fault
abbrev pub faulty : (own : ℕ) → Keys → Talks → List ℕ → Refusal → Bool
faulty own keys talks w UnknownWord = unknown w
faulty own keys talks w WrongGate = wrong_gate own keys w
faulty own keys talks w WrongSum = wrong_sum keys talks w
faulty own keys talks w ZeroTag = zero_tag own keys w
faulty own keys talks w OldHello = false
faulty own keys talks w UnaskedReply = false
faulty own keys talks w NoTalk = no_talk talks w
faulty own keys talks w BelowWindow = false
faulty own keys talks w RepeatedNumber = false
faulty own keys talks w BadPacket = false
faulty own keys talks w ForeignAddress = false
faulty own keys talks w NoRoute = false
faulty own keys talks w QueueFull = false
faulty own keys talks w NoDrawnBytes = false
faulty own keys talks w BadSettings = false

-- the order in which faults are looked for: 1, 2, 3, 4 in a hello or a reply; 1, 2, 4, 7, 3 in all else
abbrev pub order : List ℕ → List Refusal
order w = cond (is_handshake w) (UnknownWord ∷ WrongGate ∷ WrongSum ∷ ZeroTag ∷ []) (UnknownWord ∷ WrongGate ∷ ZeroTag ∷ NoTalk ∷ WrongSum ∷ [])

-- the first of some faults that the bytes have
abbrev pub first_of : (Refusal → Bool) → List Refusal → Option Refusal
first_of has [] = None
first_of has (c ∷ cs) = cond (has c) (Some c) (first_of has cs)

-- THE REFUSAL IS THE FIRST FAULT IN THE ORDER, for all bytes; where there is no fault, a word is read.
abbrev pub FirstFault : Type 0
FirstFault =
    (own : ℕ) (keys : Keys) (talks : Talks) (w : List ℕ) → result_err (read_word own keys talks w) ≡ first_of (faulty own keys talks w) (order w)
