-- The key stream of the cipher: its length, its bytes, and that turning twice gives the text back. Assumes nothing.
use Rattle.std.proofs.Common.{◌≡◌, ℕ, zero, suc, ◌+◌, ◌*◌, ◌≤◌, List, [], ◌∷◌, length, sym, refl, ap, ◌∙◌, arith, length-append, length-set}
use lib.Bits.{bit_xor, xor_assoc, xor_self, xor_zero_r}
use lib.Lanes.{zip2}
use Rattle.cipher.specs.ChaCha20.{add32, add_word, turn_word, line, quarter_round, column_round, diagonal_round, inner_block, inner_blocks, start_state, word_bytes, serialized, block_of, block, keystream, blocks_for, encrypt}

length_zip : (f : ℕ → ℕ → ℕ) (xs ys : List ℕ) → length xs ≤ length ys → length (zip2 f xs ys) ≡ length xs
length_zip f [] ys h = refl
length_zip f (x ∷ xs) [] h = absurd (omega arith)
length_zip f (x ∷ xs) (y ∷ ys) h = let more : length (zip2 f xs ys) ≡ length xs = length_zip f xs ys (omega arith) in omega arith

length-serialized : (xs : List ℕ) → length (serialized xs) ≡ 4 * length xs
unfolding serialized word_bytes
length-serialized [] = refl
length-serialized (x ∷ xs) = let more = length-serialized xs in omega arith

length-line : (a b d n : ℕ) (s : List ℕ) → length (line a b d n s) ≡ length s
unfolding line add_word turn_word
length-line a b d n s = simp length-set

length-quarter : (a b c d : ℕ) (s : List ℕ) → length (quarter_round a b c d s) ≡ length s
unfolding quarter_round
length-quarter a b c d s = simp length-line

length-inner : (s : List ℕ) → length (inner_block s) ≡ length s
unfolding inner_block diagonal_round column_round
length-inner s = simp length-quarter

length_inners : (n : ℕ) (s : List ℕ) → length (inner_blocks n s) ≡ length s
unfolding inner_blocks
length_inners zero s = refl
length_inners (suc n) s = length-inner (inner_blocks n s) ∙ length_inners n s

length-start : (key : List ℕ) (c : ℕ) (nonce : List ℕ) → length (start_state key c nonce) ≡ 16
unfolding start_state
length-start key c nonce = refl

length-block : (key : List ℕ) (c : ℕ) (nonce : List ℕ) → length (block key c nonce) ≡ 64
unfolding block block_of
length-block key c nonce =
    let s : List ℕ = start_state key c nonce in
    let sixteen : length s ≡ 16 = length-start key c nonce in
    let inner : length (inner_blocks 10 s) ≡ 16 = length_inners 10 s ∙ sixteen in
    let summed : length (zip2 add32 (inner_blocks 10 s) s) ≡ 16 = length_zip add32 (inner_blocks 10 s) s (omega arith) ∙ inner in
    length-serialized (zip2 add32 (inner_blocks 10 s) s) ∙ ap (λ n. 4 * n) summed

length_stream : (key : List ℕ) (c : ℕ) (nonce : List ℕ) (n : ℕ) → length (keystream key c nonce n) ≡ 64 * n
unfolding keystream
length_stream key c nonce zero = refl
length_stream key c nonce (suc n) =
    let first : length (block key c nonce) ≡ 64 = length-block key c nonce in
    let rest : length (keystream key (c + 1) nonce n) ≡ 64 * n = length_stream key (c + 1) nonce n in
    length-append (block key c nonce) (keystream key (c + 1) nonce n) ∙ omega arith

enough : (key : List ℕ) (c : ℕ) (nonce text : List ℕ) → length text ≤ length (keystream key c nonce (blocks_for (length text)))
enough key c nonce text = let long : length (keystream key c nonce (blocks_for (length text))) ≡ 64 * blocks_for (length text) = length_stream key c nonce _ in omega arith

-- turning keeps the length
pub length-encrypt : (key : List ℕ) (c : ℕ) (nonce text : List ℕ) → length (encrypt key c nonce text) ≡ length text
unfolding encrypt
length-encrypt key c nonce text = length_zip bit_xor text _ (enough key c nonce text)

zip_twice : (xs ys : List ℕ) → length xs ≤ length ys → zip2 bit_xor (zip2 bit_xor xs ys) ys ≡ xs
zip_twice [] ys h = refl
zip_twice (x ∷ xs) [] h = absurd (omega arith)
zip_twice (x ∷ xs) (y ∷ ys) h =
    let first : bit_xor (bit_xor x y) y ≡ x = xor_assoc x y y ∙ ap (bit_xor x) (xor_self y) ∙ xor_zero_r x in
    let rest : zip2 bit_xor (zip2 bit_xor xs ys) ys ≡ xs = zip_twice xs ys (omega arith) in
    cc

-- turning twice gives the text back
pub encrypt-twice : (key : List ℕ) (c : ℕ) (nonce text : List ℕ) → encrypt key c nonce (encrypt key c nonce text) ≡ text
unfolding encrypt
encrypt-twice key c nonce text =
    let stream : List ℕ = keystream key c nonce (blocks_for (length text)) in
    let long : length (zip2 bit_xor text stream) ≡ length text = length-encrypt key c nonce text in
    ap (λ n. zip2 bit_xor (zip2 bit_xor text stream) (keystream key c nonce (blocks_for n))) long ∙ zip_twice text stream (enough key c nonce text)

-- so two texts that are turned alike are the same
pub encrypt-same : (key : List ℕ) (c : ℕ) (nonce s t : List ℕ) → encrypt key c nonce s ≡ encrypt key c nonce t → s ≡ t
encrypt-same key c nonce s t e = sym (encrypt-twice key c nonce s) ∙ ap (encrypt key c nonce) e ∙ encrypt-twice key c nonce t
