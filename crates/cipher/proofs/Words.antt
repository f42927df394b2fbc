-- Laws of 32-bit words: the turn that the machine does is the turn of the definition, and words as bytes.
use Rattle.std.proofs.Common.{◌≡◌, ℕ, zero, suc, ◌+◌, ◌-◌, ◌*◌, ◌/◌, ◌%◌, ◌^◌, ◌<◌, ◌≤◌, List, [], ◌∷◌, ◌++◌, map, length, get_or, replicate, refl, ap, ◌∙◌, mod-eq_of_lt, arith}
use lib.Bits.{bit_or}
use lib.Lanes.{zip2}
use Rattle.std.specs.Simd.{first_chunks}
use Rattle.cipher.specs.ChaCha20.{turn_left, word_at, word_bytes, serialized}

-- `rotate_left` is the turn, for a number of bits above 0 and below 32
pub turned : (n x : ℕ) → 0 < n → n < 32 → bit_or ((x * 2 ^ (n % 32)) % 2 ^ 32) (x / 2 ^ ((32 - n % 32) % 32)) ≡ turn_left n x
unfolding turn_left
turned n x pos small =
    let e : n % 32 ≡ n = mod-eq_of_lt small in
    let less : 32 - n < 32 = omega arith in
    let f : (32 - n) % 32 ≡ 32 - n = mod-eq_of_lt less in
    rw (e, f) refl

pub serialized-append : (xs ys : List ℕ) → serialized (xs ++ ys) ≡ serialized xs ++ serialized ys
unfolding serialized word_bytes
serialized-append [] ys = refl
serialized-append (x ∷ xs) ys = ap (λ zs. word_bytes x ++ zs) (serialized-append xs ys)

pub length-serialized : (xs : List ℕ) → length (serialized xs) ≡ 4 * length xs
unfolding serialized word_bytes
length-serialized [] = refl
length-serialized (x ∷ xs) = let more = length-serialized xs in omega arith

-- a turn of each lane by shifts
pub turned_lanes : (xs : List ℕ) (n k : ℕ) → length xs ≡ k
    → zip2 bit_or (zip2 (λ a b. (a * 2 ^ b) % 2 ^ 32) xs (replicate k n)) (zip2 (λ a b. a / 2 ^ b) xs (replicate k (32 - n))) ≡ map (turn_left n) xs
unfolding turn_left
turned_lanes [] n k h = refl
turned_lanes (x ∷ xs) n zero h = absurd (omega arith)
turned_lanes (x ∷ xs) n (suc k) h = ap (λ zs. turn_left n x ∷ zs) (turned_lanes xs n k (omega arith))

-- the i-th four bytes, as a word
chunk-word : (k i : ℕ) (bytes : List ℕ) → i < k → 4 * k ≤ length bytes → word_at (get_or (first_chunks 4 k bytes) i []) 0 ≡ word_at bytes i
unfolding word_at
chunk-word zero i bytes h l = absurd (omega arith)
chunk-word (suc k) i [] h l = absurd (omega arith)
chunk-word (suc k) i (a ∷ []) h l = absurd (omega arith)
chunk-word (suc k) i (a ∷ b ∷ []) h l = absurd (omega arith)
chunk-word (suc k) i (a ∷ b ∷ c ∷ []) h l = absurd (omega arith)
chunk-word (suc k) zero (a ∷ b ∷ c ∷ d ∷ bytes) h l = refl
chunk-word (suc k) (suc i) (a ∷ b ∷ c ∷ d ∷ bytes) h l =
    let e3 : 4 * suc i + 3 ≡ suc (suc (suc (suc (4 * i + 3)))) = omega arith in
    let e2 : 4 * suc i + 2 ≡ suc (suc (suc (suc (4 * i + 2)))) = omega arith in
    let e1 : 4 * suc i + 1 ≡ suc (suc (suc (suc (4 * i + 1)))) = omega arith in
    let e0 : 4 * suc i ≡ suc (suc (suc (suc (4 * i)))) = omega arith in
    rw (e3, e2, e1, e0) (chunk-word k i bytes (omega arith) (omega arith))

pub chunk_read : (bytes : List ℕ) (chunks : List (List ℕ)) (i w : ℕ) → chunks ≡ first_chunks 4 (length bytes / 4) bytes → 4 * i + 3 < length bytes
    → w ≡ word_at (get_or chunks i []) 0 → w ≡ word_at bytes i
chunk_read bytes chunks i w e h r = r ∙ ap (λ c. word_at (get_or c i []) 0) e ∙ chunk-word (length bytes / 4) i bytes (omega arith) (omega arith)
