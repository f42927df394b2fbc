-- The key stream: its length, one block more at its end, and a longer one.
use Rattle.std.proofs.Common.{◌≡◌, ℕ, zero, suc, ◌+◌, ◌-◌, ◌*◌, ◌/◌, ◌%◌, ◌^◌, ◌≤◌, min, List, [], ◌++◌, length, get_or, take, drop, set, sym, refl, ap, ap₂, ◌∙◌, append_assoc, arith, length-append, length-drop, take-add}
use lib.Bits.{bit_xor}
use borrow.Rule.Slice.PartMut.{put_mid}
use lib.Lanes.{zip2}
use Rattle.std.proofs.lemmas.Simd.{length-zip2}
use Rattle.std.proofs.lemmas.List.{append-nil, drop_at, drop-drop, length-take-le, take_all, drop_all}
use Rattle.cipher.specs.ChaCha20.{add32, start_state, inner_blocks, block_of, block, keystream, blocks_for, encrypt}
use Rattle.cipher.specs.Lanes.{block_after}
use Rattle.cipher.proofs.Lists.{piece, put_next, zip2-append, zip2_past}
use Rattle.cipher.proofs.States.{length_inners}
use Rattle.cipher.proofs.Words.{length-serialized}

length-start : (key : List ℕ) (c : ℕ) (nonce : List ℕ) → length (start_state key c nonce) ≡ 16
unfolding start_state
length-start key c nonce = refl

length-block_of : (s : List ℕ) → length s ≡ 16 → length (block_of s) ≡ 64
unfolding block_of
length-block_of s h =
    let i : length (inner_blocks 10 s) ≡ 16 = length_inners 10 s ∙ h in
    length-serialized (zip2 add32 (inner_blocks 10 s) s) ∙ ap (λ n. 4 * n) (length-zip2 add32 (inner_blocks 10 s) s (i ∙ sym h) ∙ i)

length-block : (key : List ℕ) (c : ℕ) (nonce : List ℕ) → length (block key c nonce) ≡ 64
unfolding block
length-block key c nonce = length-block_of (start_state key c nonce) (length-start key c nonce)

length-keystream : (key : List ℕ) (c : ℕ) (nonce : List ℕ) (n : ℕ) → length (keystream key c nonce n) ≡ 64 * n
unfolding keystream
length-keystream key c nonce zero = refl
length-keystream key c nonce (suc n) =
    let first : length (block key c nonce) ≡ 64 = length-block key c nonce in
    let rest : length (keystream key (c + 1) nonce n) ≡ 64 * n = length-keystream key (c + 1) nonce n in
    length-append (block key c nonce) (keystream key (c + 1) nonce n) ∙ omega arith

-- a longer stream begins with the shorter one
keystream-add : (key : List ℕ) (c : ℕ) (nonce : List ℕ) (n m : ℕ) → keystream key c nonce (n + m) ≡ keystream key c nonce n ++ keystream key (c + n) nonce m
unfolding keystream
keystream-add key c nonce zero m = let a : 0 + m ≡ m = omega arith in let b : c + 0 ≡ c = omega arith in rw (a, b) refl
keystream-add key c nonce (suc n) m =
    let a : suc n + m ≡ suc (n + m) = omega arith in
    let b : c + suc n ≡ c + 1 + n = omega arith in
    rw (a, b) (ap (λ r. block key c nonce ++ r) (keystream-add key (c + 1) nonce n m)
    ∙ sym (append_assoc (block key c nonce) (keystream key (c + 1) nonce n) (keystream key (c + 1 + n) nonce m)))

-- a start state with another counter, which is reduced modulo 2^32
counter_set : (key : List ℕ) (c : ℕ) (nonce : List ℕ) (k d : ℕ) → (c % 2 ^ 32 + k) % 2 ^ 32 ≡ d % 2 ^ 32
    → block_of (set (start_state key c nonce) 12 (add32 (get_or (start_state key c nonce) 12 0) k)) ≡ block key d nonce
unfolding block add32 start_state
counter_set key c nonce k d e = ap (λ m. block_of (set (start_state key c nonce) 12 m)) e

-- five blocks from a start state on
pub five_blocks : (key : List ℕ) (c : ℕ) (nonce : List ℕ)
    → block_after (start_state key c nonce) 0
    ++ (block_after (start_state key c nonce) 1
    ++ (block_after (start_state key c nonce) 2
    ++ (block_after (start_state key c nonce) 3 ++ (block_after (start_state key c nonce) 4 ++ []))))
    ≡ keystream key c nonce 5
unfolding keystream
five_blocks key c nonce =
    let e0 = counter_set key c nonce 0 c (omega arith) in
    let e1 = counter_set key c nonce 1 (c + 1) (omega arith) in
    let e2 = counter_set key c nonce 2 (c + 1 + 1) (omega arith) in
    let e3 = counter_set key c nonce 3 (c + 1 + 1 + 1) (omega arith) in
    let e4 = counter_set key c nonce 4 (c + 1 + 1 + 1 + 1) (omega arith) in
    λ i. e0 i ++ (e1 i ++ (e2 i ++ (e3 i ++ (e4 i ++ []))))

-- a stream that is long enough turns a text
pub turned_by : (key : List ℕ) (c : ℕ) (nonce text : List ℕ) (n : ℕ) → length text ≤ 64 * n → zip2 bit_xor text (keystream key c nonce n) ≡ encrypt key c nonce text
unfolding encrypt
turned_by key c nonce text n h =
    let m : ℕ = blocks_for (length text) in
    let split : n ≡ m + (n - m) = omega arith in
    let long : length (keystream key c nonce m) ≡ 64 * m = length-keystream key c nonce m in
    ap (λ k. zip2 bit_xor text (keystream key c nonce k)) split
    ∙ ap (zip2 bit_xor text) (keystream-add key c nonce m (n - m))
    ∙ zip2_past bit_xor text (keystream key c nonce m) (keystream key (c + m) nonce (n - m)) (omega arith)

-- a counter counts modulo 2^32
keystream-mod : (key : List ℕ) (c d : ℕ) (nonce : List ℕ) (n : ℕ) → c % 2 ^ 32 ≡ d % 2 ^ 32 → keystream key c nonce n ≡ keystream key d nonce n
unfolding keystream block start_state
keystream-mod key c d nonce zero e = refl
keystream-mod key c d nonce (suc n) e =
    ap₂ (λ k r. block_of (set (start_state key c nonce) 12 k) ++ r) e (keystream-mod key (c + 1) (d + 1) nonce n (omega arith))

encrypt-mod : (key : List ℕ) (c d : ℕ) (nonce text : List ℕ) → c % 2 ^ 32 ≡ d % 2 ^ 32 → encrypt key c nonce text ≡ encrypt key d nonce text
unfolding encrypt
encrypt-mod key c d nonce text e = ap (zip2 bit_xor text) (keystream-mod key c d nonce (blocks_for (length text)) e)

-- a text that is cut between two blocks is turned part by part
encrypt-append : (key : List ℕ) (c : ℕ) (nonce xs ys : List ℕ) (n : ℕ) → length xs ≡ 64 * n
    → encrypt key c nonce (xs ++ ys) ≡ encrypt key c nonce xs ++ encrypt key (c + n) nonce ys
unfolding encrypt
encrypt-append key c nonce xs ys n h =
    let m : ℕ = blocks_for (length ys) in
    let total : length (xs ++ ys) ≡ length xs + length ys = length-append xs ys in
    let blocks : blocks_for (length (xs ++ ys)) ≡ n + m = omega (arith, total, h) in
    let front : blocks_for (length xs) ≡ n = omega (arith, h) in
    let long : length xs ≡ length (keystream key c nonce n) = h ∙ sym (length-keystream key c nonce n) in
    ap (λ k. zip2 bit_xor (xs ++ ys) (keystream key c nonce k)) blocks
    ∙ ap (zip2 bit_xor (xs ++ ys)) (keystream-add key c nonce n m)
    ∙ zip2-append bit_xor xs ys (keystream key c nonce n) (keystream key (c + n) nonce m) long
    ∙ ap (λ k. zip2 bit_xor xs (keystream key c nonce k) ++ zip2 bit_xor ys (keystream key (c + n) nonce m)) (sym front)

length-encrypt : (key : List ℕ) (c : ℕ) (nonce xs : List ℕ) (n : ℕ) → length xs ≡ 64 * n → length (encrypt key c nonce xs) ≡ 64 * n
unfolding encrypt
length-encrypt key c nonce xs n h =
    let blocks : blocks_for (length xs) ≡ n = omega (arith, h) in
    let long : length (keystream key c nonce (blocks_for (length xs))) ≡ 64 * n =
    length-keystream key c nonce (blocks_for (length xs)) ∙ ap (λ k. 64 * k) blocks in
    length-zip2 bit_xor xs (keystream key c nonce (blocks_for (length xs))) (h ∙ sym long) ∙ h

-- a text is turned from i on by a part that has w bytes, or what is left of the text if that is less; m is the counter of the part's first block
pub part_turned : (key : List ℕ) (c m : ℕ) (nonce old text part : List ℕ) (i e w : ℕ)
    → text ≡ encrypt key c nonce (take i old) ++ drop i old
    → part ≡ encrypt key m nonce (take (e - i) (drop i text)) → m ≡ (c + i / 64) % 2 ^ 32
    → i % 64 ≡ 0 → i ≤ length old → e ≡ min (i + w) (length old)
    → put_mid i (e - i) text part ≡ encrypt key c nonce (take (i + w) old) ++ drop (i + w) old
part_turned key c m nonce old text part i e w ht hp hm hi hl he =
    let n : ℕ = i / 64 in
    let whole : i ≡ 64 * n = omega (arith, hi) in
    let front : List ℕ = encrypt key c nonce (take i old) in
    let taken : length (take i old) ≡ 64 * n = length-take-le i old hl ∙ whole in
    let long : length front ≡ i = length-encrypt key c nonce (take i old) n taken ∙ sym whole in
    let back : drop i text ≡ drop i old = ap (drop i) ht ∙ drop_at front (drop i old) i long in
    let left : length (drop i old) ≡ length old - i = length-drop i old in
    let cut : (take (e - i) (drop i old) ≡ take w (drop i old)) × (drop (e - i) (drop i old) ≡ drop w (drop i old)) = piece (drop i old) w (e - i) (omega (arith, left, he, hl)) in
    let turned : part ≡ encrypt key (c + n) nonce (take w (drop i old)) =
    hp ∙ encrypt-mod key m (c + n) nonce (take (e - i) (drop i text)) (omega (arith, hm))
    ∙ ap (λ r. encrypt key (c + n) nonce (take (e - i) r)) back ∙ ap (encrypt key (c + n) nonce) cut.0 in
    ap (λ r. put_mid i (e - i) r part) ht
    ∙ put_next i (e - i) front (drop i old) part long
    ∙ ap₂ (λ p q. front ++ (p ++ q)) turned (cut.1 ∙ drop-drop w i old)
    ∙ sym (append_assoc front (encrypt key (c + n) nonce (take w (drop i old))) (drop (i + w) old))
    ∙ ap (λ r. r ++ drop (i + w) old)
    (sym (encrypt-append key c nonce (take i old) (take w (drop i old)) n taken) ∙ ap (encrypt key c nonce) (sym (take-add i w old)))

-- the whole text is turned
pub all_turned : (key : List ℕ) (c : ℕ) (nonce old : List ℕ) (i : ℕ) → length old ≤ i
    → encrypt key c nonce (take i old) ++ drop i old ≡ encrypt key c nonce old
all_turned key c nonce old i h =
    ap₂ (λ xs ys. encrypt key c nonce xs ++ ys) (take_all i old h) (drop_all i old h) ∙ append-nil (encrypt key c nonce old)
