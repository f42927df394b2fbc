-- Reading what was sealed gives the word back, and each word has its length. Assumes nothing.
use Rattle.std.proofs.Common.{◌≡◌, ℕ, ◌+◌, ◌^◌, ◌<◌, ◌≤◌, true, false, cond, ◌&&◌, ◌||◌, eqb, List, [], ◌∷◌, ◌++◌, length, get_or, take, drop, is_some, Some, Ok, Err, Result, refl, ap, ◌∙◌, subst, ap₂, arith}
use Rattle.std.proofs.lemmas.Bool.Decides.{nat_tests}
use Rattle.cipher.specs.ChaCha20.{encrypt}
use Rattle.protocol.specs.Kinds.{kind_byte, length_fits, kind_of}
use Rattle.protocol.proofs.Words.{kind_is}
use Rattle.protocol.specs.declared.kinds.Kind.{Kind}
use Rattle.protocol.specs.declared.kinds.Kind.TheVariants as kind
use Rattle.protocol.specs.declared.refusals.Refusal.{Refusal}
use Rattle.protocol.specs.declared.refusals.Refusal.TheVariants.{WrongSum, ZeroTag}
use Rattle.wire.specs.declared.state.Header.TheVariants as header
use Rattle.wire.specs.Keys.{turn_key, talk_key, number_nonce}
use Rattle.wire.specs.Numbers.{bytes8, number8}
use Rattle.wire.specs.Words.{Word, Hello, Reply, Packet, Empty, sealed, bytes_of}
use Rattle.wire.specs.Reading.{Keys, Talks, maker_in, opener_in, tag_in, number_in, nonce_in, sum_right, inside_under, first_in, second_in, fields_in, header_in, summed, hello_as, reply_as, hello_under, reply_under, packet_under, empty_under, with_pair, with_talk, read_by, read_word}
use Rattle.wire.proofs.Headers.{header_right}
use Rattle.wire.proofs.Streams.{encrypt-twice}
use Rattle.reading.specs.Sealed.{ReadsBack, Lengths}
use Rattle.reading.proofs.Digits.{number-bytes}
use Rattle.reading.proofs.Facts.{Facts, facts, Clear, clear_bytes, clear-tag, clear-number, clear_nonce}

-- a sealed word of a kind that has its length is a word of that kind
word_of : (k : Kind) (w : List ℕ) → get_or w 0 0 ≡ kind_byte k → length_fits k (length w) ≡ true → kind_of w ≡ Ok k
word_of k w byte fits = kind_is k w (grind (arith, nat_tests))

-- its header, where its maker has a key with the gate that it is for
header_of : (k : Kind) (keys : Keys) (pair w : List ℕ) (a e : ℕ) → Clear w (kind_byte k) a e → length_fits k (length w) ≡ true → keys a ≡ Some pair
    → header_in e (λ x. is_some (keys x)) w ≡ fields_in w k
header_of k keys pair w a e clear fits key =
    let opener = clear.opener in
    let there : is_some (keys (maker_in w)) ≡ true = ap (λ x. is_some (keys x)) clear.maker ∙ ap is_some key in
    let right : (eqb (opener_in w) e && is_some (keys (maker_in w))) ≡ true = grind (arith, nat_tests) in
    header_right e (λ x. is_some (keys x)) w k (word_of k w clear.kind fits) right

-- a word whose sum is right reads by its inside
summed-right : (key w : List ℕ) (r : Result Word Refusal) → sum_right key w ≡ true → summed key w r ≡ r
summed-right key w r right = ap (λ b. cond b r (Err WrongSum)) right

-- a packet that is long enough
packet_fits : (n : ℕ) → 35 ≤ n → length_fits kind.Packet n ≡ true
packet_fits n long = grind (arith, nat_tests)

-- two numbers inside
length_two : (t n : ℕ) → length (bytes8 t ++ bytes8 n) ≡ 16
unfolding bytes8
length_two t n = refl

front-two : (t n : ℕ) → take 8 (bytes8 t ++ bytes8 n) ≡ bytes8 t
unfolding bytes8
front-two t n = refl

back_two : (t n : ℕ) → take 8 (drop 8 (bytes8 t ++ bytes8 n)) ≡ bytes8 n
unfolding bytes8
back_two t n = refl

first_two : (t n : ℕ) → t < 2 ^ 64 → first_in (bytes8 t ++ bytes8 n) ≡ t
first_two t n small = ap number8 (front-two t n) ∙ number-bytes t small

second-two : (t n : ℕ) → n < 2 ^ 64 → second_in (bytes8 t ++ bytes8 n) ≡ n
second-two t n small = ap number8 (back_two t n) ∙ number-bytes n small

clear-long : (k a e : ℕ) (field : List ℕ) → length field ≡ 16 → length (k ∷ a ∷ e ∷ field) ≡ 19
clear-long k a e field long = omega arith

-- what is read of a hello or a reply: its header, its inside turned back, and that its sum is right
record Shaken (keys : Keys) (pair w plain : List ℕ) (k : Kind) (a e : ℕ) : Type 0 where
  pub head : header_in e (λ x. is_some (keys x)) w ≡ fields_in w k
  pub maker : maker_in w ≡ a
  pub inside : inside_under pair k a e (nonce_in w) w ≡ plain
  pub right : sum_right pair w ≡ true

shaken : (keys : Keys) (pair drawn plain : List ℕ) (k : Kind) (a e : ℕ) → length drawn ≡ 16 → length plain ≡ 16 → length_fits k 51 ≡ true → keys a ≡ Some pair
    → Shaken keys pair (sealed pair k a e drawn (take 12 drawn) plain) plain k a e
unfolding inside_under
shaken keys pair drawn plain k a e ld two fits key =
    let w : List ℕ = sealed pair k a e drawn (take 12 drawn) plain in
    let turning : List ℕ = turn_key pair (kind_byte k) a e in
    let f : Facts w pair turning (kind_byte k ∷ a ∷ e ∷ drawn) (take 12 drawn) plain = facts pair turning (kind_byte k ∷ a ∷ e ∷ drawn) (take 12 drawn) plain (clear-long (kind_byte k) a e drawn ld) in
    let long : length w ≡ 51 = f.long ∙ ap (λ m. 35 + m) two in
    let clear : Clear w (kind_byte k) a e = clear_bytes pair turning drawn (take 12 drawn) plain (kind_byte k) a e in
    let nonce : nonce_in w ≡ take 12 drawn = clear_nonce pair turning drawn (take 12 drawn) plain (kind_byte k) a e ld in
    record {
      head = header_of k keys pair w a e clear (ap (length_fits k) long ∙ fits) key;
      maker = clear.maker;
      inside = ap₂ (λ v x. encrypt turning 0 v x) nonce f.inner ∙ encrypt-twice turning 0 (take 12 drawn) plain;
      right = f.right (omega arith);
    }

hello_back : (e : ℕ) (keys : Keys) (talks : Talks) (pair drawn : List ℕ) (a t n : ℕ) → length drawn ≡ 16 → t < 2 ^ 64 → n < 2 ^ 64 → (t ≡ 0 → ⊥) → keys a ≡ Some pair
    → read_word e keys talks (bytes_of pair drawn (Hello a e t n)) ≡ Ok (Hello a e t n)
unfolding read_word hello_under
hello_back e keys talks pair drawn a t n ld lt ln some key =
    let w : List ℕ = bytes_of pair drawn (Hello a e t n) in
    let plain : List ℕ = bytes8 t ++ bytes8 n in
    let is : Shaken keys pair w plain kind.Hello a e = shaken keys pair drawn plain kind.Hello a e ld (length_two t n) refl key in
    let ft : first_in plain ≡ t = first_two t n lt in
    let there : eqb (first_in plain) 0 ≡ false = grind (arith, nat_tests) in
    let last : hello_as a e plain ≡ Ok (Hello a e t n) =
    ap (λ b. cond b (Err ZeroTag) (Ok (Hello a e (first_in plain) (second_in plain)))) there ∙ ap₂ (λ p q. Ok (Hello a e p q)) ft (second-two t n ln) in
    ap (read_by e keys talks w) (is.head ∙ ap (λ m. Ok (header.Hello m)) is.maker) ∙ ap (λ o. with_pair o (hello_under e a w)) key
    ∙ summed-right pair w (hello_as a e (inside_under pair kind.Hello a e (nonce_in w) w)) is.right ∙ ap (hello_as a e) is.inside ∙ last

reply_back : (e : ℕ) (keys : Keys) (talks : Talks) (pair drawn : List ℕ) (a t n : ℕ) → length drawn ≡ 16 → t < 2 ^ 64 → n < 2 ^ 64 → (t ≡ 0 → ⊥) → (n ≡ 0 → ⊥) → keys a ≡ Some pair
    → read_word e keys talks (bytes_of pair drawn (Reply a e t n)) ≡ Ok (Reply a e t n)
unfolding read_word reply_under
reply_back e keys talks pair drawn a t n ld lt ln some some' key =
    let w : List ℕ = bytes_of pair drawn (Reply a e t n) in
    let plain : List ℕ = bytes8 t ++ bytes8 n in
    let is : Shaken keys pair w plain kind.Reply a e = shaken keys pair drawn plain kind.Reply a e ld (length_two t n) refl key in
    let ft : first_in plain ≡ t = first_two t n lt in
    let sn : second_in plain ≡ n = second-two t n ln in
    let there : (eqb (first_in plain) 0 || eqb (second_in plain) 0) ≡ false = grind (arith, nat_tests) in
    let last : reply_as a e plain ≡ Ok (Reply a e t n) =
    ap (λ b. cond b (Err ZeroTag) (Ok (Reply a e (first_in plain) (second_in plain)))) there ∙ ap₂ (λ p q. Ok (Reply a e p q)) ft sn in
    ap (read_by e keys talks w) (is.head ∙ ap (λ m. Ok (header.Reply m)) is.maker) ∙ ap (λ o. with_pair o (reply_under e a w)) key
    ∙ summed-right pair w (reply_as a e (inside_under pair kind.Reply a e (nonce_in w) w)) is.right ∙ ap (reply_as a e) is.inside ∙ last

-- what is read of a word of a talk: its header, the tag and the number, what is inside, and that its sum is right
record Talked (keys : Keys) (key w x : List ℕ) (k : Kind) (a e h n : ℕ) : Type 0 where
  pub head : header_in e (λ x. is_some (keys x)) w ≡ fields_in w k
  pub maker : maker_in w ≡ a
  pub tag : tag_in w ≡ h
  pub number : number_in w ≡ n
  pub some : eqb (tag_in w) 0 ≡ false
  pub inside : inside_under key k a e (number_nonce n) w ≡ x
  pub right : length x < 2 ^ 60 → sum_right key w ≡ true

talked : (keys : Keys) (pair key x : List ℕ) (k : Kind) (a e h n : ℕ) → h < 2 ^ 64 → n < 2 ^ 64 → (h ≡ 0 → ⊥) → length_fits k (35 + length x) ≡ true → keys a ≡ Some pair
    → Talked keys key (sealed key k a e (bytes8 h ++ bytes8 n) (number_nonce n) x) x k a e h n
unfolding inside_under
talked keys pair key x k a e h n lh ln some fits with' =
    let field : List ℕ = bytes8 h ++ bytes8 n in
    let w : List ℕ = sealed key k a e field (number_nonce n) x in
    let turning : List ℕ = turn_key key (kind_byte k) a e in
    let f : Facts w key turning (kind_byte k ∷ a ∷ e ∷ field) (number_nonce n) x = facts key turning (kind_byte k ∷ a ∷ e ∷ field) (number_nonce n) x (clear-long (kind_byte k) a e field (length_two h n)) in
    let clear : Clear w (kind_byte k) a e = clear_bytes key turning field (number_nonce n) x (kind_byte k) a e in
    let tag : tag_in w ≡ h = ap number8 (clear-tag key turning (number_nonce n) x (kind_byte k) a e h n) ∙ number-bytes h lh in
    record {
      head = header_of k keys pair w a e clear (ap (length_fits k) f.long ∙ fits) with';
      maker = clear.maker;
      tag = tag;
      number = ap number8 (clear-number key turning (number_nonce n) x (kind_byte k) a e h n) ∙ number-bytes n ln;
      some = grind (arith, nat_tests);
      inside = ap (encrypt turning 0 (number_nonce n)) f.inner ∙ encrypt-twice turning 0 (number_nonce n) x;
      right = f.right;
    }

packet_back : (e : ℕ) (keys : Keys) (talks : Talks) (pair : List ℕ) (a m h n : ℕ) (x : List ℕ) → h < 2 ^ 64 → n < 2 ^ 64 → length x < 2 ^ 60 → (h ≡ 0 → ⊥) → keys a ≡ Some pair → talks h a ≡ Some m
    → read_word e keys talks (bytes_of pair [] (Packet a e m h n x)) ≡ Ok (Packet a e m h n x)
unfolding read_word packet_under
packet_back e keys talks pair a m h n x lh ln lx some key talk =
    let key' : List ℕ = talk_key pair m h in
    let w : List ℕ = bytes_of pair [] (Packet a e m h n x) in
    let is : Talked keys key' w x kind.Packet a e h n = talked keys pair key' x kind.Packet a e h n lh ln some (packet_fits (35 + length x) (omega arith)) key in
    let head : header_in e (λ x. is_some (keys x)) w ≡ Ok (header.Packet a h n) =
    is.head ∙ ap (λ b. cond b (Err ZeroTag) (Ok (header.Packet (maker_in w) (tag_in w) (number_in w)))) is.some
    ∙ (let maker = is.maker in let tag = is.tag in let number = is.number in λ i. Ok (header.Packet (maker i) (tag i) (number i))) in
    ap (read_by e keys talks w) head
    ∙ ap₂ (λ o p. with_pair o (λ pair. with_talk p (λ m. packet_under e a h n w (talk_key pair m h) m))) key talk
    ∙ summed-right key' w (Ok (Packet a e m h n (inside_under key' kind.Packet a e (number_nonce n) w))) (is.right lx)
    ∙ ap (λ y. Ok (Packet a e m h n y)) is.inside

empty_back : (e : ℕ) (keys : Keys) (talks : Talks) (pair : List ℕ) (a m h n : ℕ) → h < 2 ^ 64 → n < 2 ^ 64 → (h ≡ 0 → ⊥) → keys a ≡ Some pair → talks h a ≡ Some m
    → read_word e keys talks (bytes_of pair [] (Empty a e m h n)) ≡ Ok (Empty a e m h n)
unfolding read_word empty_under
empty_back e keys talks pair a m h n lh ln some key talk =
    let key' : List ℕ = talk_key pair m h in
    let w : List ℕ = bytes_of pair [] (Empty a e m h n) in
    let is : Talked keys key' w [] kind.Empty a e h n = talked keys pair key' [] kind.Empty a e h n lh ln some refl key in
    let head : header_in e (λ x. is_some (keys x)) w ≡ Ok (header.Empty a h n) =
    is.head ∙ ap (λ b. cond b (Err ZeroTag) (Ok (header.Empty (maker_in w) (tag_in w) (number_in w)))) is.some
    ∙ (let maker = is.maker in let tag = is.tag in let number = is.number in λ i. Ok (header.Empty (maker i) (tag i) (number i))) in
    ap (read_by e keys talks w) head
    ∙ ap₂ (λ o p. with_pair o (λ pair. with_talk p (λ m. empty_under e a h n w (talk_key pair m h) m))) key talk
    ∙ summed-right key' w (Ok (Empty a e m h n)) (is.right (omega arith))

pub reads_back : ReadsBack
reads_back own keys talks pair drawn (Hello a e t n) ld fits some knows =
    subst (λ o. read_word o keys talks (bytes_of pair drawn (Hello a e t n)) ≡ Ok (Hello a e t n)) knows.opener
    (hello_back e keys talks pair drawn a t n ld fits.0 fits.1 some knows.key)
reads_back own keys talks pair drawn (Reply a e t n) ld fits some knows =
    subst (λ o. read_word o keys talks (bytes_of pair drawn (Reply a e t n)) ≡ Ok (Reply a e t n)) knows.opener
    (reply_back e keys talks pair drawn a t n ld fits.0 fits.1 some.0 some.1 knows.key)
reads_back own keys talks pair drawn (Packet a e m h n x) ld fits some knows =
    subst (λ o. read_word o keys talks (bytes_of pair drawn (Packet a e m h n x)) ≡ Ok (Packet a e m h n x)) knows.0.opener
    (packet_back e keys talks pair a m h n x fits.0 fits.1 fits.2 some knows.0.key knows.1)
reads_back own keys talks pair drawn (Empty a e m h n) ld fits some knows =
    subst (λ o. read_word o keys talks (bytes_of pair drawn (Empty a e m h n)) ≡ Ok (Empty a e m h n)) knows.0.opener
    (empty_back e keys talks pair a m h n fits.0 fits.1 some knows.0.key knows.1)

-- the length of a word sealed, by that of its inside
sealed_long : (key drawn nonce plain : List ℕ) (k : Kind) (a e : ℕ) → length drawn ≡ 16 → length_fits k (35 + length plain) ≡ true
    → (length (sealed key k a e drawn nonce plain) ≡ 35 + length plain) × (length_fits k (length (sealed key k a e drawn nonce plain)) ≡ true)
sealed_long key drawn nonce plain k a e ld fits =
    let long = (facts key (turn_key key (kind_byte k) a e) (kind_byte k ∷ a ∷ e ∷ drawn) nonce plain (clear-long (kind_byte k) a e drawn ld)).long in
    (long, ap (length_fits k) long ∙ fits)

pub lengths : Lengths
unfolding bytes8
lengths pair drawn (Hello a e t n) ld = sealed_long pair drawn (take 12 drawn) (bytes8 t ++ bytes8 n) kind.Hello a e ld refl
lengths pair drawn (Reply a e t n) ld = sealed_long pair drawn (take 12 drawn) (bytes8 t ++ bytes8 n) kind.Reply a e ld refl
lengths pair drawn (Packet a e m h n x) ld =
    sealed_long (talk_key pair m h) (bytes8 h ++ bytes8 n) (number_nonce n) x kind.Packet a e (length_two h n) (packet_fits (35 + length x) (omega arith))
lengths pair drawn (Empty a e m h n) ld = sealed_long (talk_key pair m h) (bytes8 h ++ bytes8 n) (number_nonce n) [] kind.Empty a e (length_two h n) refl
