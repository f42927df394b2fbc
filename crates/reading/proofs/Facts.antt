-- The parts of a sealed word. Assumes nothing.
use Rattle.std.proofs.Common.{◌≡◌, ℕ, zero, suc, ◌+◌, ◌-◌, ◌*◌, ◌^◌, ◌<◌, true, ◌&&◌, ltb, List, [], ◌∷◌, ◌++◌, length, get_or, take, drop, refl, ap, ◌∙◌, ap₂, append_assoc, arith, lt-ltb}
use Rattle.std.proofs.lemmas.List.{length-append, length-take-le, take_at, drop_at, take-append-le}
use Rattle.cipher.specs.ChaCha20.{encrypt}
use Rattle.digest.specs.Sha256.{compressed, sums, hashed, initial_hash, last_hash, word_bytes, serialized, sha256}
use Rattle.digest.specs.Hmac.{hmac}
use Rattle.wire.specs.Keys.{sum_of}
use Rattle.wire.specs.Numbers.{bytes8}
use Rattle.wire.specs.Words.{sealed_by}
use Rattle.wire.specs.Reading.{maker_in, opener_in, body_in, sum_in, inside_in, same, sum_right}
use Rattle.wire.proofs.Right.{same_refl}
use Rattle.wire.proofs.Streams.{length-encrypt}

length-serialized : (xs : List ℕ) → length (serialized xs) ≡ 4 * length xs
unfolding serialized word_bytes
length-serialized [] = refl
length-serialized (x ∷ xs) = let more = length-serialized xs in omega arith

length-hashed : (n : ℕ) (h message : List ℕ) → length h ≡ 8 → length (hashed n h message) ≡ 8
unfolding hashed compressed sums
length-hashed zero h message eight = eight
length-hashed (suc n) h message eight = length-hashed n (compressed h (take 64 message)) (drop 64 message) refl

length_sha : (message : List ℕ) → length (sha256 message) ≡ 32
unfolding sha256 last_hash initial_hash
length_sha message = length-serialized (last_hash message) ∙ ap (λ n. 4 * n) (length-hashed _ initial_hash _ refl)

-- a sum has 16 bytes
pub length_sum : (key body : List ℕ) → length (sum_of key body) ≡ 16
unfolding sum_of hmac
length_sum key body = let long : length (hmac key (255 ∷ body)) ≡ 32 = length_sha _ in length-take-le 16 (hmac key (255 ∷ body)) (omega arith)

-- a word sealed: its length, what is before the sum, the sum, and what is between the clear bytes and the sum
pub record Facts (w key turning head nonce inside : List ℕ) : Type 0 where
  pub long : length w ≡ 35 + length inside
  pub inner : inside_in w ≡ encrypt turning 0 nonce inside
  pub right : length inside < 2 ^ 60 → sum_right key w ≡ true

pub facts : (key turning head nonce inside : List ℕ) → length head ≡ 19 → Facts (sealed_by key turning head nonce inside) key turning head nonce inside
unfolding sealed_by sum_right
facts key turning head nonce inside lh =
    let enc : List ℕ = encrypt turning 0 nonce inside in
    let body : List ℕ = head ++ enc in
    let sum : List ℕ = sum_of key body in
    let le : length enc ≡ length inside = length-encrypt turning 0 nonce inside in
    let ls : length sum ≡ 16 = length_sum key body in
    let lb : length body ≡ 19 + length inside = length-append head enc ∙ ap₂ (λ m n. m + n) lh le in
    let lw : length (body ++ sum) ≡ 35 + length inside = length-append body sum ∙ omega arith in
    let front : body_in (body ++ sum) ≡ body = take_at body sum _ (omega arith) in
    let back : sum_in (body ++ sum) ≡ sum = drop_at body sum _ (omega arith) in
    let behind : drop 19 (body ++ sum) ≡ enc ++ sum = ap (drop 19) (append_assoc head enc sum) ∙ drop_at head (enc ++ sum) 19 lh in
    record {
      long = lw;
      inner = ap (λ x. take (length (body ++ sum) - 35) x) behind ∙ take_at enc sum _ (omega arith);
      right = λ short.
          let lf : length (body_in (body ++ sum)) ≡ 19 + length inside = ap length front ∙ lb in
          let fits : ltb (65 + length (body_in (body ++ sum))) (2 ^ 61) ≡ true = lt-ltb _ _ (omega arith) in
          let right : same (sum_in (body ++ sum)) (sum_of key (body_in (body ++ sum))) ≡ true =
          ap₂ (λ s b. same s (sum_of key b)) back front ∙ same_refl sum in
          ap₂ (λ a b. a && b) fits right;
    }

-- the clear bytes of a word sealed: its kind, its maker and its opener
pub record Clear (w : List ℕ) (k a e : ℕ) : Type 0 where
  pub kind : get_or w 0 0 ≡ k
  pub maker : maker_in w ≡ a
  pub opener : opener_in w ≡ e

pub clear_bytes : (key turning field nonce inside : List ℕ) (k a e : ℕ) → Clear (sealed_by key turning (k ∷ a ∷ e ∷ field) nonce inside) k a e
unfolding sealed_by
clear_bytes key turning field nonce inside k a e = record { kind = refl; maker = refl; opener = refl }

-- the tag and the number of a word of a talk
pub clear-tag : (key turning nonce inside : List ℕ) (k a e h n : ℕ) → take 8 (drop 3 (sealed_by key turning (k ∷ a ∷ e ∷ (bytes8 h ++ bytes8 n)) nonce inside)) ≡ bytes8 h
unfolding sealed_by bytes8
clear-tag key turning nonce inside k a e h n = refl

pub clear-number : (key turning nonce inside : List ℕ) (k a e h n : ℕ) → take 8 (drop 11 (sealed_by key turning (k ∷ a ∷ e ∷ (bytes8 h ++ bytes8 n)) nonce inside)) ≡ bytes8 n
unfolding sealed_by bytes8
clear-number key turning nonce inside k a e h n = refl

-- the drawn bytes
pub clear_field : (key turning field nonce inside : List ℕ) (k a e : ℕ) → length field ≡ 16 → take 16 (drop 3 (sealed_by key turning (k ∷ a ∷ e ∷ field) nonce inside)) ≡ field
unfolding sealed_by
clear_field key turning field nonce inside k a e long =
    ap (take 16) (append_assoc field (encrypt turning 0 nonce inside) _) ∙ take_at field _ 16 long

-- the nonce, which the drawn bytes begin with
pub clear_nonce : (key turning field nonce inside : List ℕ) (k a e : ℕ) → length field ≡ 16 → take 12 (drop 3 (sealed_by key turning (k ∷ a ∷ e ∷ field) nonce inside)) ≡ take 12 field
unfolding sealed_by
clear_nonce key turning field nonce inside k a e long =
    ap (take 12) (append_assoc field (encrypt turning 0 nonce inside) _) ∙ take-append-le 12 field _ (omega arith)
