-- The numbers of the refusals, and their sentences for people. Every promise that speaks of a refusal's
-- number uses this definition.
-- Assumes nothing.
use Rattle.std.specs.Prelude.{◌≡◌, ◌≢◌, ℕ, ◌-◌, ◌≤◌, List, length, Some, Result, MatchResult, codes, slice_get}
use Rattle.protocol.specs.declared.refusals.Refusal.{Refusal}
use Rattle.protocol.specs.declared.refusals.UnknownNumber.{UnknownNumber}
use Rattle.protocol.specs.declared.refusals.Refusal.TheVariants.{UnknownWord, WrongGate, WrongSum, ZeroTag, OldHello, UnaskedReply, NoTalk, BelowWindow, RepeatedNumber, BadPacket, ForeignAddress, NoRoute, QueueFull, NoDrawnBytes, BadSettings}

-- the number of a refusal, from 1 to 15
abbrev pub refusal_number : Refusal → ℕ
refusal_number UnknownWord = 1
refusal_number WrongGate = 2
refusal_number WrongSum = 3
refusal_number ZeroTag = 4
refusal_number OldHello = 5
refusal_number UnaskedReply = 6
refusal_number NoTalk = 7
refusal_number BelowWindow = 8
refusal_number RepeatedNumber = 9
refusal_number BadPacket = 10
refusal_number ForeignAddress = 11
refusal_number NoRoute = 12
refusal_number QueueFull = 13
refusal_number NoDrawnBytes = 14
refusal_number BadSettings = 15

-- a number is that of a refusal, and one from 1 to 15
abbrev pub HasNumber : Refusal → ℕ → Type 0
HasNumber x n = (n ≡ refusal_number x) × (1 ≤ n) × (n ≤ 15)

-- what is found of a number: the refusal that has it, or the number that no refusal has
abbrev pub IsRefusalOf : ℕ → Result Refusal UnknownNumber → Type 0
IsRefusalOf n found =
    MatchResult found (λ x. refusal_number x ≡ n) (λ e. (e.0 ≡ n) × ((x : Refusal) → refusal_number x ≢ n))

-- each refusal stands in a list of all, in the order of the numbers from 1, and nothing else does
pub record AllAreThere (all : List Refusal) : Type 0 where
  pub fifteen : length all ≡ 15
  pub each : (x : Refusal) → slice_get all (refusal_number x - 1) ≡ Some x

-- the sentence of a refusal, in ASCII
abbrev pub refusal_sentence : Refusal → List ℕ
refusal_sentence UnknownWord = codes "the word is of unknown kind or length"
refusal_sentence WrongGate = codes "the word is by or for a gate that isn't there, for another gate, or by this one"
refusal_sentence WrongSum = codes "the word's sum isn't right"
refusal_sentence ZeroTag = codes "the word has a tag of 0"
refusal_sentence OldHello = codes "the hello's tick isn't above that of the last hello"
refusal_sentence UnaskedReply = codes "the reply is to no hello that waits"
refusal_sentence NoTalk = codes "there is no such talk, or it is over"
refusal_sentence BelowWindow = codes "the number is 0 or too far below the highest"
refusal_sentence RepeatedNumber = codes "the number came before"
refusal_sentence BadPacket = codes "the packet isn't IPv4, is cut, too long, or has a wrong header sum"
refusal_sentence ForeignAddress = codes "an address isn't owned by the gate that must own it"
refusal_sentence NoRoute = codes "the destination is nobody's, or this gate's own"
refusal_sentence QueueFull = codes "there is no room for another packet to wait"
refusal_sentence NoDrawnBytes = codes "the drawn bytes are used up"
refusal_sentence BadSettings = codes "a setting is damaged or out of range"
