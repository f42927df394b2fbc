-- What is read of a word agrees with its clear bytes. Assumes nothing.
use Rattle.std.proofs.Common.{◌≡◌, ℕ, Bool, true, false, cond, eqb, List, ◌++◌, get_or, take, is_some, Some, None, Ok, Err, Option, Result, sym, refl, ap, ◌∙◌, subst, arith}
use Rattle.protocol.specs.Kinds.{kind_byte}
use Rattle.protocol.proofs.Words.{first_byte}
use Rattle.protocol.specs.declared.kinds.Kind.{Kind}
use Rattle.protocol.specs.declared.kinds.Kind.TheVariants as kind
use Rattle.protocol.specs.declared.refusals.Refusal.{Refusal}
use Rattle.protocol.specs.declared.refusals.Refusal.TheVariants.{WrongSum, ZeroTag}
use Rattle.wire.specs.declared.state.Header.{Header}
use Rattle.wire.specs.declared.state.Header.TheVariants as header
use Rattle.wire.specs.Keys.{talk_key, number_nonce}
use Rattle.wire.specs.Numbers.{bytes8}
use Rattle.wire.specs.Words.{Word, Hello, Reply, Packet, Empty, bytes_of}
use Rattle.wire.specs.Reading.{Keys, Talks, maker_in, opener_in, nonce_in, sum_right, inside_under, first_in, second_in, header_in, hello_under, reply_under, packet_under, empty_under, with_pair, with_talk, read_by, read_word}
use Rattle.wire.proofs.Headers.{From, Says, header_says}
use Rattle.reading.specs.Sealed.{by_of, for_of, sort_of, Gates}
use Rattle.reading.proofs.Facts.{Clear, clear_bytes}

-- the kind, the maker and the opener of a word stand in its clear bytes
record Stands (w : List ℕ) (x : Word) : Type 0 where
  pub byte : kind_byte (sort_of x) ≡ get_or w 0 0
  pub maker : by_of x ≡ maker_in w
  pub opener : for_of x ≡ opener_in w

-- what a refusal doesn't read
refused : {x : Word} (w : List ℕ) (e : Refusal) → ◌≡◌ {A = Result Word Refusal} (Err e) (Ok x) → Stands w x
refused w e r = let z : ◌≡◌ {A = ℕ} 0 1 = cc r in absurd (omega arith)

-- where the sum is right and, where it matters, no tag is 0
read_in : (w : List ℕ) (x y : Word) (s z : Bool) → Stands w y → cond s (cond z (Err ZeroTag) (Ok y)) (Err WrongSum) ≡ Ok x → Stands w x
read_in w x y true true st r = refused w ZeroTag r
read_in w x y true false st r = let same : y ≡ x = cc r in subst (Stands w) same st
read_in w x y false z st r = refused w WrongSum r

stands : (own : ℕ) (keys : Keys) (talks : Talks) (w : List ℕ) (x : Word) → read_word own keys talks w ≡ Ok x → Stands w x
unfolding read_word hello_under reply_under packet_under empty_under
stands own keys talks w x is = by (header_in own (λ a. is_some (keys a)) w) refl is
  where
    from : (k : Kind) (a : ℕ) (y : Word) → From own (λ a. is_some (keys a)) w k a → sort_of y ≡ k → by_of y ≡ a → for_of y ≡ own → Stands w y
    from k a y f sort by' for' =
        record { byte = ap kind_byte sort ∙ first_byte k w f.word; maker = by' ∙ f.maker; opener = for' ∙ sym f.opener }

    hello : (a : ℕ) (o : Option (List ℕ)) → From own (λ a. is_some (keys a)) w kind.Hello a → with_pair o (hello_under own a w) ≡ Ok x → Stands w x
    hello a None f r = refused w _ r
    hello a (Some pair) f r =
        read_in w x _ (sum_right pair w) _ (from kind.Hello a (Hello a own (first_in (inside_under pair kind.Hello a own (nonce_in w) w)) (second_in (inside_under pair kind.Hello a own (nonce_in w) w))) f refl refl refl) r

    reply : (a : ℕ) (o : Option (List ℕ)) → From own (λ a. is_some (keys a)) w kind.Reply a → with_pair o (reply_under own a w) ≡ Ok x → Stands w x
    reply a None f r = refused w _ r
    reply a (Some pair) f r =
        read_in w x _ (sum_right pair w) _ (from kind.Reply a (Reply a own (first_in (inside_under pair kind.Reply a own (nonce_in w) w)) (second_in (inside_under pair kind.Reply a own (nonce_in w) w))) f refl refl refl) r

    packet : (a h n : ℕ) (o : Option (List ℕ)) (t : Option ℕ) → From own (λ a. is_some (keys a)) w kind.Packet a
        → with_pair o (λ pair. with_talk t (λ m. packet_under own a h n w (talk_key pair m h) m)) ≡ Ok x → Stands w x
    packet a h n None t f r = refused w _ r
    packet a h n (Some pair) None f r = refused w _ r
    packet a h n (Some pair) (Some m) f r =
        read_in w x _ (sum_right (talk_key pair m h) w) false (from kind.Packet a (Packet a own m h n (inside_under (talk_key pair m h) kind.Packet a own (number_nonce n) w)) f refl refl refl) r

    empty : (a h n : ℕ) (o : Option (List ℕ)) (t : Option ℕ) → From own (λ a. is_some (keys a)) w kind.Empty a
        → with_pair o (λ pair. with_talk t (λ m. empty_under own a h n w (talk_key pair m h) m)) ≡ Ok x → Stands w x
    empty a h n None t f r = refused w _ r
    empty a h n (Some pair) None f r = refused w _ r
    empty a h n (Some pair) (Some m) f r = read_in w x _ (sum_right (talk_key pair m h) w) false (from kind.Empty a (Empty a own m h n) f refl refl refl) r

    headed : (g : Header) → Says own (λ a. is_some (keys a)) w g → read_by own keys talks w (Ok g) ≡ Ok x → Stands w x
    headed (header.Hello a) s r = hello a (keys a) s r
    headed (header.Reply a) s r = reply a (keys a) s r
    headed (header.Packet a h n) s r = packet a h n (keys a) (talks h a) s.from r
    headed (header.Empty a h n) s r = empty a h n (keys a) (talks h a) s.from r

    by : (r : Result Header Refusal) → header_in own (λ a. is_some (keys a)) w ≡ r → read_by own keys talks w r ≡ Ok x → Stands w x
    by (Err e) known r = refused w e r
    by (Ok g) known r = headed g (header_says own (λ a. is_some (keys a)) w g known) r

-- kinds with one byte are one kind
kind_with : ℕ → Kind
kind_with n = cond (eqb n 1) kind.Hello (cond (eqb n 2) kind.Reply (cond (eqb n 3) kind.Packet kind.Empty))

kind_back : (k : Kind) → kind_with (kind_byte k) ≡ k
unfolding kind_with
kind_back kind.Hello = refl
kind_back kind.Reply = refl
kind_back kind.Packet = refl
kind_back kind.Empty = refl

kind_same : (k j : Kind) → kind_byte k ≡ kind_byte j → k ≡ j
kind_same k j e = sym (kind_back k) ∙ ap kind_with e ∙ kind_back j

-- and so it was sealed
from_clear : (w : List ℕ) (y : Word) → Clear w (kind_byte (sort_of y)) (by_of y) (for_of y) → Stands w y
from_clear w y c = record { byte = sym c.kind; maker = sym c.maker; opener = sym c.opener }

sealed-stands : (pair drawn : List ℕ) (y : Word) → Stands (bytes_of pair drawn y) y
sealed-stands pair drawn (Hello a e t n) = from_clear _ _ (clear_bytes pair _ drawn (take 12 drawn) (bytes8 t ++ bytes8 n) 1 a e)
sealed-stands pair drawn (Reply a e t n) = from_clear _ _ (clear_bytes pair _ drawn (take 12 drawn) (bytes8 t ++ bytes8 n) 2 a e)
sealed-stands pair drawn (Packet a e m h n x) = from_clear _ _ (clear_bytes (talk_key pair m h) _ (bytes8 h ++ bytes8 n) (number_nonce n) x 3 a e)
sealed-stands pair drawn (Empty a e m h n) = from_clear _ _ (clear_bytes (talk_key pair m h) _ (bytes8 h ++ bytes8 n) (number_nonce n) _ 4 a e)

pub gates : Gates
gates own keys talks pair drawn x y is =
    let read = stands own keys talks (bytes_of pair drawn y) x is in
    let made = sealed-stands pair drawn y in
    (kind_same (sort_of x) (sort_of y) (read.byte ∙ sym made.byte), read.maker ∙ sym made.maker, read.opener ∙ sym made.opener)
