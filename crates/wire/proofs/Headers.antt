-- What the clear bytes of a word say, and what they come from. Assumes nothing.
use Rattle.std.proofs.Common.{◌≡◌, ℕ, ◌+◌, ◌≤◌, Bool, true, false, cond, ◌&&◌, eqb, List, length, get_or, take, drop, Ok, Err, Result, sym, refl, ap, ◌∙◌, subst, arith}
use Rattle.std.proofs.lemmas.Bool.Decides.{nat_tests}
use Rattle.std.proofs.lemmas.List.{get_or-take, drop-take, take-take}
use Rattle.protocol.specs.Kinds.{kind_of, IsWord}
use Rattle.protocol.specs.declared.kinds.Kind.{Kind}
use Rattle.protocol.specs.declared.kinds.Kind.TheVariants as kind
use Rattle.protocol.specs.declared.refusals.Refusal.{Refusal}
use Rattle.protocol.specs.declared.refusals.Refusal.TheVariants.{WrongGate, ZeroTag}
use Rattle.protocol.proofs.Words.{word-is}
use Rattle.wire.specs.declared.state.Header.{Header}
use Rattle.wire.specs.declared.state.Header.TheVariants as header
use Rattle.wire.specs.Numbers.{number8}
use Rattle.wire.specs.Reading.{maker_in, opener_in, tag_in, number_in, fields_in, header_as, header_in}

-- for this gate, by one that is there
pub header_right : (own : ℕ) (there : ℕ → Bool) (w : List ℕ) (k : Kind) → kind_of w ≡ Ok k → (eqb (opener_in w) own && there (maker_in w)) ≡ true
    → header_in own there w ≡ fields_in w k
header_right own there w k is right = ap (header_as own there w) is ∙ ap (λ b. cond b (fields_in w k) (Err WrongGate)) right

-- not for this gate, or by none that is there
pub header_wrong : (own : ℕ) (there : ℕ → Bool) (w : List ℕ) (k : Kind) → kind_of w ≡ Ok k → (eqb (opener_in w) own && there (maker_in w)) ≡ false
    → Err WrongGate ≡ header_in own there w
header_wrong own there w k is wrong = sym (ap (header_as own there w) is ∙ ap (λ b. cond b (fields_in w k) (Err WrongGate)) wrong)

-- what the first 19 bytes of a word say is what the word says
pub maker_first : (w c : List ℕ) → c ≡ take 19 w → get_or c 1 0 ≡ maker_in w
maker_first w c is = ap (λ x. get_or x 1 0) is ∙ get_or-take 19 w 1 0 (omega arith)

pub opener_first : (w c : List ℕ) → c ≡ take 19 w → get_or c 2 0 ≡ opener_in w
opener_first w c is = ap (λ x. get_or x 2 0) is ∙ get_or-take 19 w 2 0 (omega arith)

part_first : (w c : List ℕ) (n m : ℕ) → c ≡ take 19 w → 19 ≡ n + m → 8 ≤ m → take 8 (drop n c) ≡ take 8 (drop n w)
part_first w c n m is all long =
    ap (λ x. take 8 (drop n x)) is ∙ ap (λ k. take 8 (drop n (take k w))) all ∙ ap (take 8) (drop-take n m w) ∙ take-take 8 m (drop n w) long

pub fields_first : (w c : List ℕ) (k : Kind) → c ≡ take 19 w → fields_in c k ≡ fields_in w k
fields_first w c k is = by k
  where
    maker : maker_in c ≡ maker_in w
    maker = maker_first w c is

    tag : tag_in c ≡ tag_in w
    tag = ap number8 (part_first w c 3 16 is (omega arith) (omega arith))

    number : number_in c ≡ number_in w
    number = ap number8 (part_first w c 11 8 is (omega arith) (omega arith))

    by : (k : Kind) → fields_in c k ≡ fields_in w k
    by kind.Hello = ap (λ m. Ok (header.Hello m)) maker
    by kind.Reply = ap (λ m. Ok (header.Reply m)) maker
    by kind.Packet = λ i. cond (eqb (tag i) 0) (Err ZeroTag) (Ok (header.Packet (maker i) (tag i) (number i)))
    by kind.Empty = λ i. cond (eqb (tag i) 0) (Err ZeroTag) (Ok (header.Empty (maker i) (tag i) (number i)))

-- a word of a kind, by gate a, which is there, for this gate
pub record From (own : ℕ) (there : ℕ → Bool) (w : List ℕ) (k : Kind) (a : ℕ) : Type 0 where
  pub maker : a ≡ maker_in w
  pub opener : opener_in w ≡ own
  pub is : there (maker_in w) ≡ true
  pub word : IsWord k w

-- and in a talk with a tag that isn't 0 and a number
pub record In (own : ℕ) (there : ℕ → Bool) (w : List ℕ) (k : Kind) (a h n : ℕ) : Type 0 where
  pub from : From own there w k a
  pub tag : h ≡ tag_in w
  pub number : n ≡ number_in w
  pub some : eqb (tag_in w) 0 ≡ false

-- what a header says of a word
abbrev pub Says : (own : ℕ) → (ℕ → Bool) → List ℕ → Header → Type 0
Says own there w (header.Hello a) = From own there w kind.Hello a
Says own there w (header.Reply a) = From own there w kind.Reply a
Says own there w (header.Packet a h n) = In own there w kind.Packet a h n
Says own there w (header.Empty a h n) = In own there w kind.Empty a h n

-- a header that was read says so
pub header_says : (own : ℕ) (there : ℕ → Bool) (w : List ℕ) (h : Header) → header_in own there w ≡ Ok h → Says own there w h
header_says own there w h is = by (kind_of w) refl is
  where
    from : (k : Kind) → kind_of w ≡ Ok k → (eqb (opener_in w) own && there (maker_in w)) ≡ true → From own there w k (maker_in w)
    from k known right = record { maker = refl; opener = grind (arith, nat_tests); is = grind (arith, nat_tests); word = word-is k w known }

    talk : (b : Bool) (g : Header) → (b ≡ false → Says own there w g) → cond b (Err ZeroTag) (Ok g) ≡ Ok h → Says own there w h
    talk true g says r = let z : ◌≡◌ {A = ℕ} 0 1 = cc r in absurd (omega arith)
    talk false g says r = let same : g ≡ h = cc r in subst (Says own there w) same (says refl)

    fields : (k : Kind) → kind_of w ≡ Ok k → (eqb (opener_in w) own && there (maker_in w)) ≡ true → fields_in w k ≡ Ok h → Says own there w h
    fields kind.Hello known right r = let same : header.Hello (maker_in w) ≡ h = cc r in subst (Says own there w) same (from kind.Hello known right)
    fields kind.Reply known right r = let same : header.Reply (maker_in w) ≡ h = cc r in subst (Says own there w) same (from kind.Reply known right)
    fields kind.Packet known right r =
        talk (eqb (tag_in w) 0) (header.Packet (maker_in w) (tag_in w) (number_in w)) (λ e. record { from = from kind.Packet known right; tag = refl; number = refl; some = e }) r
    fields kind.Empty known right r =
        talk (eqb (tag_in w) 0) (header.Empty (maker_in w) (tag_in w) (number_in w)) (λ e. record { from = from kind.Empty known right; tag = refl; number = refl; some = e }) r

    gated : (k : Kind) (b : Bool) → kind_of w ≡ Ok k → (eqb (opener_in w) own && there (maker_in w)) ≡ b → cond b (fields_in w k) (Err WrongGate) ≡ Ok h → Says own there w h
    gated k true known right r = fields k known right r
    gated k false known right r = let z : ◌≡◌ {A = ℕ} 0 1 = cc r in absurd (omega arith)

    by : (r : Result Kind Refusal) → kind_of w ≡ r → header_as own there w r ≡ Ok h → Says own there w h
    by (Err e) known r = let z : ◌≡◌ {A = ℕ} 0 1 = cc r in absurd (omega arith)
    by (Ok k) known r = gated k (eqb (opener_in w) own && there (maker_in w)) known refl r

-- the length of a hello or a reply
pub hello-length : (w : List ℕ) → IsWord kind.Hello w → length w ≡ 51
hello-length w is = grind (arith, nat_tests)

pub reply-length : (w : List ℕ) → IsWord kind.Reply w → length w ≡ 51
reply-length w is = grind (arith, nat_tests)

-- the least length of a packet, and that of an empty word
pub packet-length : (w : List ℕ) → IsWord kind.Packet w → 35 ≤ length w
packet-length w is = grind (arith, nat_tests)

pub empty-length : (w : List ℕ) → IsWord kind.Empty w → length w ≡ 35
empty-length w is = grind (arith, nat_tests)
