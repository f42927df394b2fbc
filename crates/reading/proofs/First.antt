-- The refusal is the first fault in the order. Assumes nothing.
use Rattle.std.proofs.Common.{◌≡◌, ℕ, Bool, true, false, cond, not, ◌&&◌, ◌||◌, eqb, List, [], ◌∷◌, is_some, Some, None, Ok, Err, Option, Result, unwrap_or, sym, refl, ap, ◌∙◌, ap₂, arith}
use Rattle.std.proofs.lemmas.Bool.Decides.{nat_tests}
use Rattle.std.specs.Result.{result_err}
use Rattle.protocol.specs.Kinds.{is_word, kind_of, IsWord}
use Rattle.protocol.proofs.Words.{word-is}
use Rattle.protocol.specs.declared.kinds.Kind.{Kind}
use Rattle.protocol.specs.declared.kinds.Kind.TheVariants as kind
use Rattle.protocol.specs.declared.refusals.Refusal.{Refusal}
use Rattle.protocol.specs.declared.refusals.Refusal.TheVariants.{UnknownWord, WrongGate, WrongSum, ZeroTag, NoTalk}
use Rattle.wire.specs.declared.state.Header.TheVariants as header
use Rattle.wire.specs.Keys.{talk_key, number_nonce}
use Rattle.wire.specs.Words.{Word, Hello, Reply, Packet, Empty}
use Rattle.wire.specs.Reading.{Keys, Talks, maker_in, opener_in, tag_in, number_in, nonce_in, sum_right, inside_under, first_in, second_in, header_as, hello_under, reply_under, packet_under, empty_under, with_pair, with_talk, read_by, read_word}
use Rattle.reading.specs.Order.{FirstFault, is_hello, is_handshake, pair_of, talk_of, unknown, wrong_gate, no_talk, faulty, order, first_of}

-- four faults in their order, where the first two are not there
four : (s z : Bool) (x : Word)
    → result_err {T = Word} (cond s (cond z (Err ZeroTag) (Ok x)) (Err WrongSum)) ≡ cond (not s) (Some WrongSum) (cond z (Some ZeroTag) None)
four true true x = refl
four true false x = refl
four false true x = refl
four false false x = refl

-- bytes that are a word of no kind
kind_err : (b1 b2 b3 b4 : Bool) (e : Refusal) → cond b1 (Ok kind.Hello) (cond b2 (Ok kind.Reply) (cond b3 (Ok kind.Packet) (cond b4 (Ok kind.Empty) (Err UnknownWord)))) ≡ Err e
    → (Some e ≡ Some UnknownWord) × (not (b1 || (b2 || (b3 || b4))) ≡ true)
kind_err true b2 b3 b4 e r = let z : ◌≡◌ {A = ℕ} 0 1 = cc r in absurd (omega arith)
kind_err false true b3 b4 e r = let z : ◌≡◌ {A = ℕ} 0 1 = cc r in absurd (omega arith)
kind_err false false true b4 e r = let z : ◌≡◌ {A = ℕ} 0 1 = cc r in absurd (omega arith)
kind_err false false false true e r = let z : ◌≡◌ {A = ℕ} 0 1 = cc r in absurd (omega arith)
kind_err false false false false e r = (cc r, refl)

no_kind : (w : List ℕ) (e : Refusal) → kind_of w ≡ Err e → (Some e ≡ Some UnknownWord) × (unknown w ≡ true)
unfolding kind_of
no_kind w e r = kind_err (is_word kind.Hello w) (is_word kind.Reply w) (is_word kind.Packet w) (is_word kind.Empty w) e r

-- such bytes are refused before all else
unknown-first : (u : Bool) (rest : Option Refusal) → u ≡ true → Some UnknownWord ≡ cond u (Some UnknownWord) rest
unknown-first u rest yes' = sym (ap (λ b. cond b (Some UnknownWord) rest) yes')

-- a word of a kind is known, and tells whether it is of a handshake
known : (k : Kind) (w : List ℕ) → IsWord k w → unknown w ≡ false
known kind.Hello w is = grind (arith, nat_tests)
known kind.Reply w is = grind (arith, nat_tests)
known kind.Packet w is = grind (arith, nat_tests)
known kind.Empty w is = grind (arith, nat_tests)

hello-is : (w : List ℕ) → IsWord kind.Hello w → (is_hello w ≡ true) × (is_handshake w ≡ true)
hello-is w is = (grind (arith, nat_tests), grind (arith, nat_tests))

reply-is : (w : List ℕ) → IsWord kind.Reply w → (is_hello w ≡ false) × (is_handshake w ≡ true)
reply-is w is = (grind (arith, nat_tests), grind (arith, nat_tests))

packet-is : (w : List ℕ) → IsWord kind.Packet w → (is_hello w ≡ false) × (is_handshake w ≡ false)
packet-is w is = (grind (arith, nat_tests), grind (arith, nat_tests))

empty-is : (w : List ℕ) → IsWord kind.Empty w → (is_hello w ≡ false) × (is_handshake w ≡ false)
empty-is w is = (grind (arith, nat_tests), grind (arith, nat_tests))

one : (s : Bool) (x : Word) → result_err {T = Word} (cond s (Ok x) (Err WrongSum)) ≡ cond (not s) (Some WrongSum) None
one true x = refl
one false x = refl

-- the faults of a word of each kind, after its kind: p tells whether it is for this gate, o is the key with its maker, t the maker's tag of its talk
hello-first : (own : ℕ) (keys : Keys) (talks : Talks) (w : List ℕ) (p : Bool) (o : Option (List ℕ)) → keys (maker_in w) ≡ o
    → result_err (read_by own keys talks w (cond (p && is_some o) (Ok (header.Hello (maker_in w))) (Err WrongGate)))
    ≡ cond (not (p && is_some o)) (Some WrongGate) (cond (not (sum_right (unwrap_or o []) w)) (Some WrongSum)
    (cond (eqb (first_in (inside_under (unwrap_or o []) kind.Hello (maker_in w) own (nonce_in w) w)) 0) (Some ZeroTag) None))
unfolding hello_under
hello-first own keys talks w false o key = refl
hello-first own keys talks w true None key = refl
hello-first own keys talks w true (Some pair) key =
    let inside : List ℕ = inside_under pair kind.Hello (maker_in w) own (nonce_in w) w in
    ap (λ o. result_err (with_pair o (hello_under own (maker_in w) w))) key
    ∙ four (sum_right pair w) (eqb (first_in inside) 0) (Hello (maker_in w) own (first_in inside) (second_in inside))

reply-first : (own : ℕ) (keys : Keys) (talks : Talks) (w : List ℕ) (p : Bool) (o : Option (List ℕ)) → keys (maker_in w) ≡ o
    → result_err (read_by own keys talks w (cond (p && is_some o) (Ok (header.Reply (maker_in w))) (Err WrongGate)))
    ≡ cond (not (p && is_some o)) (Some WrongGate) (cond (not (sum_right (unwrap_or o []) w)) (Some WrongSum)
    (cond (eqb (first_in (inside_under (unwrap_or o []) kind.Reply (maker_in w) own (nonce_in w) w)) 0 || eqb (second_in (inside_under (unwrap_or o []) kind.Reply (maker_in w) own (nonce_in w) w)) 0) (Some ZeroTag) None))
unfolding reply_under
reply-first own keys talks w false o key = refl
reply-first own keys talks w true None key = refl
reply-first own keys talks w true (Some pair) key =
    let inside : List ℕ = inside_under pair kind.Reply (maker_in w) own (nonce_in w) w in
    ap (λ o. result_err (with_pair o (reply_under own (maker_in w) w))) key
    ∙ four (sum_right pair w) (eqb (first_in inside) 0 || eqb (second_in inside) 0) (Reply (maker_in w) own (first_in inside) (second_in inside))

packet-first : (own : ℕ) (keys : Keys) (talks : Talks) (w : List ℕ) (p z : Bool) (o : Option (List ℕ)) (t : Option ℕ) → keys (maker_in w) ≡ o → talks (tag_in w) (maker_in w) ≡ t
    → result_err (read_by own keys talks w (cond (p && is_some o) (cond z (Err ZeroTag) (Ok (header.Packet (maker_in w) (tag_in w) (number_in w)))) (Err WrongGate)))
    ≡ cond (not (p && is_some o)) (Some WrongGate) (cond z (Some ZeroTag) (cond (not (is_some t)) (Some NoTalk) (cond (not (sum_right (talk_key (unwrap_or o []) (unwrap_or t 0) (tag_in w)) w)) (Some WrongSum) None)))
unfolding packet_under
packet-first own keys talks w false z o t key talk = refl
packet-first own keys talks w true z None t key talk = refl
packet-first own keys talks w true true (Some pair) t key talk = refl
packet-first own keys talks w true false (Some pair) None key talk =
    ap₂ (λ o t. result_err (with_pair o (λ pair. with_talk t (λ m. packet_under own (maker_in w) (tag_in w) (number_in w) w (talk_key pair m (tag_in w)) m)))) key talk
packet-first own keys talks w true false (Some pair) (Some m) key talk =
    ap₂ (λ o t. result_err (with_pair o (λ pair. with_talk t (λ m. packet_under own (maker_in w) (tag_in w) (number_in w) w (talk_key pair m (tag_in w)) m)))) key talk
    ∙ one (sum_right (talk_key pair m (tag_in w)) w) (Packet (maker_in w) own m (tag_in w) (number_in w) (inside_under (talk_key pair m (tag_in w)) kind.Packet (maker_in w) own (number_nonce (number_in w)) w))

empty-first : (own : ℕ) (keys : Keys) (talks : Talks) (w : List ℕ) (p z : Bool) (o : Option (List ℕ)) (t : Option ℕ) → keys (maker_in w) ≡ o → talks (tag_in w) (maker_in w) ≡ t
    → result_err (read_by own keys talks w (cond (p && is_some o) (cond z (Err ZeroTag) (Ok (header.Empty (maker_in w) (tag_in w) (number_in w)))) (Err WrongGate)))
    ≡ cond (not (p && is_some o)) (Some WrongGate) (cond z (Some ZeroTag) (cond (not (is_some t)) (Some NoTalk) (cond (not (sum_right (talk_key (unwrap_or o []) (unwrap_or t 0) (tag_in w)) w)) (Some WrongSum) None)))
unfolding empty_under
empty-first own keys talks w false z o t key talk = refl
empty-first own keys talks w true z None t key talk = refl
empty-first own keys talks w true true (Some pair) t key talk = refl
empty-first own keys talks w true false (Some pair) None key talk =
    ap₂ (λ o t. result_err (with_pair o (λ pair. with_talk t (λ m. empty_under own (maker_in w) (tag_in w) (number_in w) w (talk_key pair m (tag_in w)) m)))) key talk
empty-first own keys talks w true false (Some pair) (Some m) key talk =
    ap₂ (λ o t. result_err (with_pair o (λ pair. with_talk t (λ m. empty_under own (maker_in w) (tag_in w) (number_in w) w (talk_key pair m (tag_in w)) m)))) key talk
    ∙ one (sum_right (talk_key pair m (tag_in w)) w) (Empty (maker_in w) own m (tag_in w) (number_in w))

-- the first of the faults of a word that is known, of a hello or a reply
first-four : (own : ℕ) (keys : Keys) (talks : Talks) (w : List ℕ) (b : Bool) → unknown w ≡ false → is_handshake w ≡ true → is_hello w ≡ b
    → first_of (faulty own keys talks w) (order w)
    ≡ cond (wrong_gate own keys w) (Some WrongGate) (cond (not (sum_right (pair_of keys w) w)) (Some WrongSum) (cond (cond b (eqb (first_in (inside_under (pair_of keys w) kind.Hello (maker_in w) own (nonce_in w) w)) 0) (eqb (first_in (inside_under (pair_of keys w) kind.Reply (maker_in w) own (nonce_in w) w)) 0 || eqb (second_in (inside_under (pair_of keys w) kind.Reply (maker_in w) own (nonce_in w) w)) 0)) (Some ZeroTag) None))
first-four own keys talks w b nu hs he =
    ap (λ h. first_of (faulty own keys talks w) (cond h (UnknownWord ∷ WrongGate ∷ WrongSum ∷ ZeroTag ∷ []) (UnknownWord ∷ WrongGate ∷ ZeroTag ∷ NoTalk ∷ WrongSum ∷ []))) hs
    ∙ (λ i. cond (nu i) (Some UnknownWord) (cond (wrong_gate own keys w) (Some WrongGate) (cond (not (sum_right (cond (hs i) (pair_of keys w) (talk_of keys talks w)) w)) (Some WrongSum)
    (cond (cond (he i) (eqb (first_in (inside_under (pair_of keys w) kind.Hello (maker_in w) own (nonce_in w) w)) 0) (cond (hs i) (eqb (first_in (inside_under (pair_of keys w) kind.Reply (maker_in w) own (nonce_in w) w)) 0 || eqb (second_in (inside_under (pair_of keys w) kind.Reply (maker_in w) own (nonce_in w) w)) 0) (eqb (tag_in w) 0))) (Some ZeroTag) None))))

-- and of any other
first_five : (own : ℕ) (keys : Keys) (talks : Talks) (w : List ℕ) → unknown w ≡ false → is_handshake w ≡ false → is_hello w ≡ false
    → first_of (faulty own keys talks w) (order w)
    ≡ cond (wrong_gate own keys w) (Some WrongGate) (cond (eqb (tag_in w) 0) (Some ZeroTag) (cond (no_talk talks w) (Some NoTalk) (cond (not (sum_right (talk_of keys talks w) w)) (Some WrongSum) None)))
first_five own keys talks w nu hs he =
    ap (λ h. first_of (faulty own keys talks w) (cond h (UnknownWord ∷ WrongGate ∷ WrongSum ∷ ZeroTag ∷ []) (UnknownWord ∷ WrongGate ∷ ZeroTag ∷ NoTalk ∷ WrongSum ∷ []))) hs
    ∙ (λ i. cond (nu i) (Some UnknownWord) (cond (wrong_gate own keys w) (Some WrongGate) (cond (cond (he i) (eqb (first_in (inside_under (pair_of keys w) kind.Hello (maker_in w) own (nonce_in w) w)) 0) (cond (hs i) (eqb (first_in (inside_under (pair_of keys w) kind.Reply (maker_in w) own (nonce_in w) w)) 0 || eqb (second_in (inside_under (pair_of keys w) kind.Reply (maker_in w) own (nonce_in w) w)) 0) (eqb (tag_in w) 0))) (Some ZeroTag)
    (cond (no_talk talks w) (Some NoTalk) (cond (not (sum_right (cond (hs i) (pair_of keys w) (talk_of keys talks w)) w)) (Some WrongSum) None)))))

pub first_fault : FirstFault
unfolding read_word
first_fault own keys talks w = by (kind_of w) refl
  where
    both : (b : Bool) → unknown w ≡ true → Some UnknownWord ≡ first_of (faulty own keys talks w) (cond b (UnknownWord ∷ WrongGate ∷ WrongSum ∷ ZeroTag ∷ []) (UnknownWord ∷ WrongGate ∷ ZeroTag ∷ NoTalk ∷ WrongSum ∷ []))
    both true yes' = unknown-first (unknown w) _ yes'
    both false yes' = unknown-first (unknown w) _ yes'

    by : (r : Result Kind Refusal) → kind_of w ≡ r → result_err (read_by own keys talks w (header_as own (λ a. is_some (keys a)) w r)) ≡ first_of (faulty own keys talks w) (order w)
    by (Err e) is = (no_kind w e is).0 ∙ both (is_handshake w) (no_kind w e is).1
    by (Ok kind.Hello) is =
        let word : IsWord kind.Hello w = word-is kind.Hello w is in
        hello-first own keys talks w (eqb (opener_in w) own) (keys (maker_in w)) refl
        ∙ sym (first-four own keys talks w true (known kind.Hello w word) (hello-is w word).1 (hello-is w word).0)
    by (Ok kind.Reply) is =
        let word : IsWord kind.Reply w = word-is kind.Reply w is in
        reply-first own keys talks w (eqb (opener_in w) own) (keys (maker_in w)) refl
        ∙ sym (first-four own keys talks w false (known kind.Reply w word) (reply-is w word).1 (reply-is w word).0)
    by (Ok kind.Packet) is =
        let word : IsWord kind.Packet w = word-is kind.Packet w is in
        packet-first own keys talks w (eqb (opener_in w) own) (eqb (tag_in w) 0) (keys (maker_in w)) (talks (tag_in w) (maker_in w)) refl refl
        ∙ sym (first_five own keys talks w (known kind.Packet w word) (packet-is w word).1 (packet-is w word).0)
    by (Ok kind.Empty) is =
        let word : IsWord kind.Empty w = word-is kind.Empty w is in
        empty-first own keys talks w (eqb (opener_in w) own) (eqb (tag_in w) 0) (keys (maker_in w)) (talks (tag_in w) (maker_in w)) refl refl
        ∙ sym (first_five own keys talks w (known kind.Empty w word) (empty-is w word).1 (empty-is w word).0)
