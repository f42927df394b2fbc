-- The last blocks of a message: the rest, a bit 1, zeros, and the length.
use Rattle.std.proofs.Common.{◌≡◌, ℕ, suc, ◌+◌, ◌-◌, ◌*◌, ◌/◌, ◌%◌, ◌^◌, ◌<◌, ◌≤◌, List, [], ◌∷◌, ◌++◌, length, take, drop, set, replicate, sym, ap, ◌∙◌, append_assoc, arith, length-append, length-drop}
use borrow.Rule.Slice.PartMut.{put_mid}
use Rattle.std.proofs.lemmas.List.{append-nil, nil_from_length, set_at, take_at, drop-replicate, length-replicate, replicate-append-replicate}
use Rattle.digest.specs.Sha256.{zeros_after, length_bytes, padding, end_of}

abbrev zeros : ℕ → List ℕ
zeros n = replicate n 0

-- 64 zeros after some bytes and a byte 128 are written
pub marked_is : (rest block : List ℕ) (fill : ℕ) → fill < 64 → rest ≡ take fill block → length rest ≡ fill
    → set (rest ++ drop fill (replicate 64 0)) fill 128 ≡ take fill block ++ (128 ∷ replicate (63 - fill) 0)
marked_is rest block fill h e long =
    let count : 64 - fill ≡ suc (63 - fill) = omega arith in
    let left : drop fill (zeros 64) ≡ 0 ∷ zeros (63 - fill) = drop-replicate fill 64 0 ∙ ap zeros count in
    ap (λ z. set (rest ++ z) fill 128) left ∙ set_at rest 0 (zeros (63 - fill)) 128 fill long ∙ ap (λ z. z ++ (128 ∷ zeros (63 - fill))) e

-- the last eight bytes of a block are written
pub ended_with : (block len bytes : List ℕ) → length block ≡ 64 → len ≡ bytes → put_mid 56 8 block len ≡ take 56 block ++ bytes
ended_with block len bytes long e =
    let none : drop 8 (drop 56 block) ≡ [] = nil_from_length (drop 8 (drop 56 block)) (omega (arith, length-drop 8 (drop 56 block), length-drop 56 block)) in
    ap (λ z. take 56 block ++ (len ++ z)) none ∙ ap (λ z. take 56 block ++ z) (append-nil len ∙ e)

-- the length in bits, as it is multiplied modulo 2^64
pub length-bytes : (t n : ℕ) → n ≡ t * 8 % 2 ^ 64
    → (n / 72057594037927936 % 256) ∷ (n / 281474976710656 % 256) ∷ (n / 1099511627776 % 256) ∷ (n / 4294967296 % 256) ∷ (n / 16777216 % 256)
    ∷ (n / 65536 % 256) ∷ (n / 256 % 256) ∷ (n % 256) ∷ []
    ≡ length_bytes (8 * t)
unfolding length_bytes
length-bytes t n e =
    let e7 : n / 72057594037927936 % 256 ≡ 8 * t / 2 ^ 56 % 256 = omega arith in
    let e6 : n / 281474976710656 % 256 ≡ 8 * t / 2 ^ 48 % 256 = omega arith in
    let e5 : n / 1099511627776 % 256 ≡ 8 * t / 2 ^ 40 % 256 = omega arith in
    let e4 : n / 4294967296 % 256 ≡ 8 * t / 2 ^ 32 % 256 = omega arith in
    let e3 : n / 16777216 % 256 ≡ 8 * t / 2 ^ 24 % 256 = omega arith in
    let e2 : n / 65536 % 256 ≡ 8 * t / 2 ^ 16 % 256 = omega arith in
    let e1 : n / 256 % 256 ≡ 8 * t / 2 ^ 8 % 256 = omega arith in
    let e0 : n % 256 ≡ 8 * t % 256 = omega arith in
    λ i. e7 i ∷ e6 i ∷ e5 i ∷ e4 i ∷ e3 i ∷ e2 i ∷ e1 i ∷ e0 i ∷ []

pub length-padding : (n : ℕ) → n % 64 + length (padding n) ≡ end_of n
unfolding padding length_bytes
length-padding n =
    let m : length (zeros (zeros_after n)) ≡ zeros_after n = length-replicate (zeros_after n) 0 in
    let long : length (zeros (zeros_after n) ++ length_bytes (8 * n)) ≡ length (zeros (zeros_after n)) + length (length_bytes (8 * n)) =
    length-append (zeros (zeros_after n)) (length_bytes (8 * n)) in
    omega arith

-- the last blocks are one, or two
pub end_one : (n : ℕ) → n % 64 < 56 → end_of n ≡ 64
unfolding zeros_after
end_one n h = omega arith

pub end_two : (n : ℕ) → 56 ≤ n % 64 → end_of n ≡ 128
unfolding zeros_after
end_two n h = omega arith

-- one block is left: the rest, a byte 128, zeros, and the length
pub ends_here : (rest : List ℕ) (n : ℕ) → length rest ≡ n % 64 → n % 64 < 56
    → take 56 (rest ++ (128 ∷ replicate (63 - n % 64) 0)) ++ length_bytes (8 * n) ≡ rest ++ padding n
unfolding padding zeros_after
ends_here rest n long h =
    let k : ℕ = 55 - n % 64 in
    let split : 63 - n % 64 ≡ k + 8 = omega arith in
    let same : k ≡ (119 - n % 64) % 64 = omega arith in
    let none : length (zeros k) ≡ k = length-replicate k 0 in
    let front : length (rest ++ (128 ∷ zeros k)) ≡ 56 = length-append rest (128 ∷ zeros k) ∙ omega arith in
    let two : rest ++ (128 ∷ zeros (63 - n % 64)) ≡ (rest ++ (128 ∷ zeros k)) ++ zeros 8 =
    ap (λ z. rest ++ (128 ∷ z)) (ap zeros split ∙ sym (replicate-append-replicate k 8 0)) ∙ sym (append_assoc rest (128 ∷ zeros k) (zeros 8)) in
    ap (λ z. take 56 z ++ length_bytes (8 * n)) two ∙ ap (λ z. z ++ length_bytes (8 * n)) (take_at (rest ++ (128 ∷ zeros k)) (zeros 8) 56 front)
    ∙ append_assoc rest (128 ∷ zeros k) (length_bytes (8 * n)) ∙ ap (λ j. rest ++ (128 ∷ (zeros j ++ length_bytes (8 * n)))) same

-- two blocks are left: the length is in the second, after zeros
pub ends_later : (rest : List ℕ) (n : ℕ) → 56 ≤ n % 64
    → (rest ++ (128 ∷ replicate (63 - n % 64) 0)) ++ (replicate 56 0 ++ length_bytes (8 * n)) ≡ rest ++ padding n
unfolding padding zeros_after
ends_later rest n h =
    let k : ℕ = 63 - n % 64 in
    let same : k + 56 ≡ (119 - n % 64) % 64 = omega arith in
    append_assoc rest (128 ∷ zeros k) (zeros 56 ++ length_bytes (8 * n))
    ∙ ap (λ z. rest ++ (128 ∷ z)) (sym (append_assoc (zeros k) (zeros 56) (length_bytes (8 * n))) ∙ ap (λ z. z ++ length_bytes (8 * n)) (replicate-append-replicate k 56 0 ∙ ap zeros same))
