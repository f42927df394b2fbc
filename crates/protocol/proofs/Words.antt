-- The laws of the kind of a word: it is this kind exactly if the bytes are a word of this kind, and refused
-- exactly if they are a word of none. Assumes nothing.
use Rattle.std.proofs.Common.{◌≡◌, ℕ, List, get_or, Ok, Err, sym, arith}
use Rattle.std.proofs.lemmas.Bool.Decides.{nat_tests}
use Rattle.protocol.specs.declared.kinds.Kind.{Kind}
use Rattle.protocol.specs.declared.kinds.Kind.TheVariants.{Hello, Reply, Packet, Empty}
use Rattle.protocol.specs.declared.refusals.Refusal.TheVariants.{UnknownWord}
use Rattle.protocol.specs.Kinds.{kind_byte, IsWord, kind_of}

-- a word of a kind has that kind
pub kind_is : (k : Kind) (w : List ℕ) → IsWord k w → kind_of w ≡ Ok k
unfolding kind_of
kind_is Hello w is = grind (arith, nat_tests)
kind_is Reply w is = grind (arith, nat_tests)
kind_is Packet w is = grind (arith, nat_tests)
kind_is Empty w is = grind (arith, nat_tests)

-- what has a kind is a word of that kind
pub word-is : (k : Kind) (w : List ℕ) → kind_of w ≡ Ok k → IsWord k w
unfolding kind_of
word-is Hello w has = grind (arith, nat_tests)
word-is Reply w has = grind (arith, nat_tests)
word-is Packet w has = grind (arith, nat_tests)
word-is Empty w has = grind (arith, nat_tests)

-- bytes that are a word of no kind are refused
pub kind_none : (w : List ℕ) → ((k : Kind) → IsWord k w → ⊥) → kind_of w ≡ Err UnknownWord
unfolding kind_of
kind_none w none = grind (arith, nat_tests, none Hello, none Reply, none Packet, none Empty)

-- what is refused is a word of no kind
pub none-refused : (w : List ℕ) → kind_of w ≡ Err UnknownWord → (k : Kind) → IsWord k w → ⊥
none-refused w no' k is =
    let clash : ◌≡◌ {A = ℕ} 0 1 = cc (kind_is k w is) in
    omega arith

-- a word of a kind begins with its byte
pub first_byte : (k : Kind) (w : List ℕ) → IsWord k w → kind_byte k ≡ get_or w 0 0
first_byte k w is = grind (arith, nat_tests)

-- THE SAME, as the code finds it out: where no kind has the first byte, the bytes are refused
pub no_kind : (w : List ℕ) → ((k : Kind) → kind_byte k ≡ get_or w 0 0 → ⊥) → Err UnknownWord ≡ kind_of w
no_kind w none = sym (kind_none w (λ k is. none k (first_byte k w is)))
