-- What is told of a word, and left of its bytes, by each way through its reading. Assumes nothing.
use Rattle.std.proofs.Common.{◌≡◌, ℕ, ◌-◌, ◌<◌, ◌≤◌, Bool, true, false, cond, ◌||◌, eqb, ltb, List, ◌++◌, length, take, drop, Ok, Err, Result, sym, refl, ap, ◌∙◌, subst, ap₂, arith, le-ltb, lt-ltb}
use native.Mathlib.Nat.{min_comm, max_comm}
use borrow.Rule.Slice.PartMut.{put_mid}
use Rattle.std.proofs.lemmas.List.{drop-drop, length-take-le, length-drop, take-take}
use Rattle.std.proofs.lemmas.Bool.Decides.{nat_tests}
use Rattle.cipher.specs.ChaCha20.{encrypt}
use Rattle.digest.specs.Hashers.{Prepared}
use Rattle.protocol.specs.Kinds.{kind_byte}
use Rattle.protocol.specs.declared.kinds.Kind.TheVariants as kind
use Rattle.protocol.specs.declared.refusals.Refusal.{Refusal}
use Rattle.protocol.specs.declared.refusals.Refusal.TheVariants.{WrongSum, ZeroTag}
use Rattle.wire.specs.declared.state.Opened.TheVariants as opened
use Rattle.wire.specs.declared.state.TalkKeys.{TalkKeys}
use Rattle.wire.specs.declared.state.Ways.{Ways}
use Rattle.wire.specs.Keys.{turn_key, talk_key, number_nonce, TalkHolds}
use Rattle.wire.specs.Words.{Word, Hello, Reply, Packet, Empty}
use Rattle.wire.proofs.Streams.{length-encrypt}
use Rattle.wire.specs.Reading.{nonce_in, inside_in, sum_right, inside_under, first_in, second_in, hello_as, reply_as, summed, hello_under, reply_under, packet_under, empty_under, told, left, too_long}

-- where the sum is wrong, all is refused
pub unsummed : (key w : List ℕ) (r : Result Word Refusal) → sum_right key w ≡ false → Err WrongSum ≡ summed key w r
unsummed key w r wrong = sym (ap (λ b. cond b r (Err WrongSum)) wrong)

-- where it is right, what is read is what is inside
pub as_summed : (key w : List ℕ) (r : Result Word Refusal) → sum_right key w ≡ true → r ≡ summed key w r
as_summed key w r right = sym (ap (λ b. cond b r (Err WrongSum)) right)

pub hello_wrong : (own a : ℕ) (w key : List ℕ) → sum_right key w ≡ false → Err WrongSum ≡ told (hello_under own a w key)
unfolding hello_under
hello_wrong own a w key wrong = ap told (unsummed key w _ wrong)

pub reply_wrong : (own a : ℕ) (w key : List ℕ) → sum_right key w ≡ false → Err WrongSum ≡ told (reply_under own a w key)
unfolding reply_under
reply_wrong own a w key wrong = ap told (unsummed key w _ wrong)

-- the inside that was turned under the kept key
inside-kept : (key turning x w nonce : List ℕ) (k a own : ℕ) → turning ≡ turn_key key k a own → x ≡ encrypt turning 0 nonce (inside_in w)
    → x ≡ encrypt (turn_key key k a own) 0 nonce (inside_in w)
inside-kept key turning x w nonce k a own kept is = is ∙ ap (λ t. encrypt t 0 nonce (inside_in w)) kept

-- the nonce and the inside of a hello or a reply stand in the word
pub inside_there : (w v x : List ℕ) (a b : ℕ) → length w ≡ 51 → v ≡ take 12 (take 16 (take a (drop 3 w))) → 16 ≤ a → x ≡ take 16 (take b (drop 19 w)) → 16 ≤ b
    → (v ≡ nonce_in w) × (x ≡ inside_in w)
inside_there w v x a b long is room is' room' =
    let all : 16 ≡ length w - 35 = omega arith in (
      is ∙ take-take 12 16 (take a (drop 3 w)) (omega arith) ∙ take-take 12 a (drop 3 w) (omega arith),
      is' ∙ take-take 16 b (drop 19 w) room' ∙ ap (λ n. take n (drop 19 w)) all,
    )

-- what is told by a test of a sum
pub cond_err : {X : Type 0} (b : Bool) (x : X) (e f : Refusal) → Err e ≡ cond b (Ok x) (Err f) → (b ≡ false) × (e ≡ f)
cond_err true x e f is = let z : ◌≡◌ {A = ℕ} 0 1 = cc in absurd (omega arith)
cond_err false x e f is = (refl, cc)

pub cond_ok : {X : Type 0} (b : Bool) (x y : X) (f : Refusal) → Ok y ≡ cond b (Ok x) (Err f) → (b ≡ true) × (y ≡ x)
cond_ok true x y f is = (refl, cc)
cond_ok false x y f is = let z : ◌≡◌ {A = ℕ} 0 1 = cc in absurd (omega arith)

-- the two numbers of a word whose sum isn't right, and of one whose sum is
pub numbers_wrong : (key w y : List ℕ) (e : Refusal) → sum_right key w ≡ false → e ≡ WrongSum
    → ◌≡◌ {A = Result (ℕ × ℕ) Refusal} (Err e) (cond (sum_right key w) (Ok (first_in y, second_in y)) (Err WrongSum))
numbers_wrong key w y e wrong is = ap Err is ∙ sym (ap (λ b. cond b (Ok (first_in y, second_in y)) (Err WrongSum)) wrong)

pub numbers_told : (key w x y : List ℕ) (p : ℕ × ℕ) → sum_right key w ≡ true → x ≡ y → p.0 ≡ first_in x → p.1 ≡ second_in x
    → ◌≡◌ {A = Result (ℕ × ℕ) Refusal} (Ok p) (cond (sum_right key w) (Ok (first_in y, second_in y)) (Err WrongSum))
numbers_told key w x y p right is first second =
    let one : p.0 ≡ first_in y = first ∙ ap first_in is in
    let two : p.1 ≡ second_in y = second ∙ ap second_in is in
    (λ i. Ok (one i, two i)) ∙ sym (ap (λ b. cond b (Ok (first_in y, second_in y)) (Err WrongSum)) right)

pub hello-zero : (own a : ℕ) (w key turning x : List ℕ) (t : ℕ) → sum_right key w ≡ true → turning ≡ turn_key key (kind_byte kind.Hello) a own
    → x ≡ encrypt turning 0 (nonce_in w) (inside_in w) → t ≡ first_in x → t ≡ 0 → Err ZeroTag ≡ told (hello_under own a w key)
unfolding hello_under inside_under
hello-zero own a w key turning x t right kept is first zero' =
    let none : eqb (first_in x) 0 ≡ true = grind (arith, nat_tests) in
    ap told (sym (ap (λ b. cond b (Err ZeroTag) (Ok (Hello a own (first_in x) (second_in x)))) none)
    ∙ ap (hello_as a own) (inside-kept key turning x w (nonce_in w) _ a own kept is) ∙ as_summed key w _ right)

pub hello-told : (own a : ℕ) (w key turning x : List ℕ) (t n : ℕ) → sum_right key w ≡ true → turning ≡ turn_key key (kind_byte kind.Hello) a own
    → x ≡ encrypt turning 0 (nonce_in w) (inside_in w) → t ≡ first_in x → n ≡ second_in x → (t ≡ 0 → ⊥) → Ok (opened.Hello t n) ≡ told (hello_under own a w key)
unfolding hello_under inside_under
hello-told own a w key turning x t n right kept is first second some =
    let there : eqb (first_in x) 0 ≡ false = grind (arith, nat_tests) in
    ap₂ (λ f s. Ok (opened.Hello f s)) first second
    ∙ ap told (sym (ap (λ b. cond b (Err ZeroTag) (Ok (Hello a own (first_in x) (second_in x)))) there)
    ∙ ap (hello_as a own) (inside-kept key turning x w (nonce_in w) _ a own kept is) ∙ as_summed key w _ right)

pub reply-zero : (own a : ℕ) (w key turning x : List ℕ) → sum_right key w ≡ true → turning ≡ turn_key key (kind_byte kind.Reply) a own
    → x ≡ encrypt turning 0 (nonce_in w) (inside_in w) → (eqb (first_in x) 0 || eqb (second_in x) 0) ≡ true → Err ZeroTag ≡ told (reply_under own a w key)
unfolding reply_under inside_under
reply-zero own a w key turning x right kept is none =
    ap told (sym (ap (λ b. cond b (Err ZeroTag) (Ok (Reply a own (first_in x) (second_in x)))) none)
    ∙ ap (reply_as a own) (inside-kept key turning x w (nonce_in w) _ a own kept is) ∙ as_summed key w _ right)

pub reply-told : (own a : ℕ) (w key turning x : List ℕ) (t n : ℕ) → sum_right key w ≡ true → turning ≡ turn_key key (kind_byte kind.Reply) a own
    → x ≡ encrypt turning 0 (nonce_in w) (inside_in w) → t ≡ first_in x → n ≡ second_in x → (t ≡ 0 → ⊥) → (n ≡ 0 → ⊥) → Ok (opened.Reply t n) ≡ told (reply_under own a w key)
unfolding reply_under inside_under
reply-told own a w key turning x t n right kept is first second some some' =
    let there : (eqb (first_in x) 0 || eqb (second_in x) 0) ≡ false = grind (arith, nat_tests) in
    ap₂ (λ f s. Ok (opened.Reply f s)) first second
    ∙ ap told (sym (ap (λ b. cond b (Err ZeroTag) (Ok (Reply a own (first_in x) (second_in x)))) there)
    ∙ ap (reply_as a own) (inside-kept key turning x w (nonce_in w) _ a own kept is) ∙ as_summed key w _ right)

-- the key of a talk is the same from both sides
pub talk_swap : (pair : List ℕ) (s t : ℕ) → talk_key pair s t ≡ talk_key pair t s
unfolding talk_key
talk_swap pair s t = rw (min_comm s t, max_comm s t) refl

-- the kept keys of a talk, by the other side's order of the tags
pub hash_kept : (t : TalkKeys) (pair : List ℕ) → TalkHolds t pair → Prepared t.side.hash (talk_key pair t.theirs t.mine)
hash_kept t pair h = subst (λ k. Prepared t.side.hash k) (talk_swap pair t.mine t.theirs) h.hash

pub back_kept : (t : TalkKeys) (pair : List ℕ) → TalkHolds t pair
    → t.packet.back ≡ turn_key (talk_key pair t.theirs t.mine) (kind_byte kind.Packet) t.side.peer t.side.own
back_kept t pair h = ap (λ (w : Ways). w.back) h.packet ∙ ap (λ k. turn_key k (kind_byte kind.Packet) t.side.peer t.side.own) (talk_swap pair t.mine t.theirs)

pub empty_wrong : (own a h n m : ℕ) (w key : List ℕ) → sum_right key w ≡ false → Err WrongSum ≡ told (empty_under own a h n w key m)
unfolding empty_under
empty_wrong own a h n m w key wrong = ap told (unsummed key w _ wrong)

pub empty-told : (own a h n m : ℕ) (w key : List ℕ) → sum_right key w ≡ true → Ok (opened.Empty n) ≡ told (empty_under own a h n w key m)
unfolding empty_under
empty-told own a h n m w key right = ap told (as_summed key w (Ok (Empty a own m h n)) right)

-- an empty word leaves its bytes as they were
pub empty_left : (own a h n m : ℕ) (w key : List ℕ) → w ≡ left w (empty_under own a h n w key m)
unfolding empty_under
empty_left own a h n m w key = by (sum_right key w)
  where
    by : (b : Bool) → w ≡ left w (cond b (Ok (Empty a own m h n)) (Err WrongSum))
    by true = refl
    by false = refl

pub hello-left : (own a : ℕ) (w key : List ℕ) → w ≡ left w (hello_under own a w key)
unfolding hello_under
hello-left own a w key = by (sum_right key w) (inside_under key kind.Hello a own (nonce_in w) w)
  where
    inner : (b : Bool) (t n : ℕ) → w ≡ left w (cond b (Err ZeroTag) (Ok (Hello a own t n)))
    inner true t n = refl
    inner false t n = refl

    by : (b : Bool) (x : List ℕ) → w ≡ left w (cond b (hello_as a own x) (Err WrongSum))
    by true x = inner (eqb (first_in x) 0) (first_in x) (second_in x)
    by false x = refl

pub reply-left : (own a : ℕ) (w key : List ℕ) → w ≡ left w (reply_under own a w key)
unfolding reply_under
reply-left own a w key = by (sum_right key w) (inside_under key kind.Reply a own (nonce_in w) w)
  where
    inner : (b : Bool) (t n : ℕ) → w ≡ left w (cond b (Err ZeroTag) (Ok (Reply a own t n)))
    inner true t n = refl
    inner false t n = refl

    by : (b : Bool) (x : List ℕ) → w ≡ left w (cond b (reply_as a own x) (Err WrongSum))
    by true x = inner (eqb (first_in x) 0 || eqb (second_in x) 0) (first_in x) (second_in x)
    by false x = refl

pub packet_wrong : (own a h n m : ℕ) (w key : List ℕ) → sum_right key w ≡ false
    → (Err WrongSum ≡ told (packet_under own a h n w key m)) × (w ≡ left w (packet_under own a h n w key m))
unfolding packet_under
packet_wrong own a h n m w key wrong = (ap told (unsummed key w _ wrong), ap (left w) (unsummed key w _ wrong))

-- the inside turned back is as long as what was there
long-inside : (own a n : ℕ) (w key : List ℕ) → 35 ≤ length w → length (inside_under key kind.Packet a own (number_nonce n) w) ≡ length w - 35
unfolding inside_under
long-inside own a n w key long =
    length-encrypt (turn_key key (kind_byte kind.Packet) a own) 0 (number_nonce n) (inside_in w)
    ∙ length-take-le (length w - 35) (drop 19 w) (simp length-drop (omega arith))

pub packet-long : (own a h n m : ℕ) (w key : List ℕ) → 35 ≤ length w → sum_right key w ≡ true → 1280 < length w - 35
    → (Ok (opened.Oversize n) ≡ told (packet_under own a h n w key m)) × (w ≡ left w (packet_under own a h n w key m))
unfolding packet_under
packet-long own a h n m w key there right long =
    let x : List ℕ = inside_under key kind.Packet a own (number_nonce n) w in
    let over : too_long x ≡ true = ap (ltb 1280) (long-inside own a n w key there) ∙ lt-ltb 1280 (length w - 35) long in (
      sym (ap (λ b. Ok (cond b (opened.Oversize n) (opened.Packet n))) over) ∙ ap told (as_summed key w (Ok (Packet a own m h n x)) right),
      sym (ap (λ b. cond b w (take 19 w ++ (x ++ drop (length w - 16) w))) over) ∙ ap (left w) (as_summed key w (Ok (Packet a own m h n x)) right),
    )

pub packet-told : (own a h n m k : ℕ) (w key turning nonce x : List ℕ) → 35 ≤ length w → sum_right key w ≡ true → length w - 35 ≤ 1280
    → turning ≡ turn_key key (kind_byte kind.Packet) a own → nonce ≡ number_nonce n → x ≡ encrypt turning 0 nonce (take k (drop 19 w)) → k ≡ length w - 35
    → (Ok (opened.Packet n) ≡ told (packet_under own a h n w key m)) × (put_mid 19 k w x ≡ left w (packet_under own a h n w key m))
unfolding packet_under inside_under
packet-told own a h n m k w key turning nonce x there right short kept is-nonce is len =
    let y : List ℕ = inside_under key kind.Packet a own (number_nonce n) w in
    let same : x ≡ y = is ∙ ap (λ j. encrypt turning 0 nonce (take j (drop 19 w))) len ∙ ap₂ (λ t v. encrypt t 0 v (inside_in w)) kept is-nonce in
    let fits : too_long y ≡ false = ap (ltb 1280) (long-inside own a n w key there) ∙ le-ltb 1280 (length w - 35) short in
    let rest : drop k (drop 19 w) ≡ drop (length w - 16) w = drop-drop k 19 w ∙ ap (λ j. drop j w) (omega arith) in (
      sym (ap (λ b. Ok (cond b (opened.Oversize n) (opened.Packet n))) fits) ∙ ap told (as_summed key w (Ok (Packet a own m h n y)) right),
      ap₂ (λ s t. take 19 w ++ (s ++ t)) same rest
          ∙ sym (ap (λ b. cond b w (take 19 w ++ (y ++ drop (length w - 16) w))) fits) ∙ ap (left w) (as_summed key w (Ok (Packet a own m h n y)) right),
    )

-- for the functions that open what a header says
pub ruleset handshake = (cond_err, cond_ok, numbers_wrong, numbers_told)

pub ruleset hello = (cond_err, cond_ok, hello_wrong, hello-zero, hello-told)

pub ruleset reply = (cond_err, cond_ok, reply_wrong, reply-zero, reply-told)

pub ruleset packet = (cond_err, cond_ok, hash_kept, back_kept, packet_wrong, packet-long, packet-told)

pub ruleset keepalive = (cond_err, cond_ok, hash_kept, empty_wrong, empty-told)
