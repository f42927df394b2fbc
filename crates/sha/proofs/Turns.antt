-- Words that are turned, and read from bytes.
use Rattle.std.proofs.Common.{◌≡◌, ℕ, zero, suc, ◌+◌, ◌-◌, ◌*◌, ◌/◌, ◌%◌, ◌^◌, ◌<◌, List, [], length, get_or, take, drop, set, ap, ◌∙◌, ap₂, arith, add-one}
use lib.Bits.{bit_or}
use Rattle.std.specs.Int.{w32, from_be_bytes}
use Rattle.std.specs.Simd.{first_chunks}
use Rattle.std.proofs.lemmas.List.{get_or-drop, get_or-take, drop-drop}
use Rattle.std.proofs.lemmas.List.FromFn.{fill_by_all}
use Rattle.sha.specs.Sha256.{rotr, add32, word_at, block_words, sums}

-- a turn by a number of bits below 32, as the library has it
pub turned : (n x : ℕ) → 0 < n → n < 32 → bit_or (x / 2 ^ (n % 32)) (x * 2 ^ ((32 - n % 32) % 32) % 2 ^ 32) ≡ rotr n x
unfolding rotr
turned n x l h =
    let a : n % 32 ≡ n = omega arith in
    let b : (32 - n % 32) % 32 ≡ 32 - n = omega arith in
    ap₂ (λ p q. bit_or (x / 2 ^ p) (x * 2 ^ q % 2 ^ 32)) a b

-- a chunk by its place
chunk_at : (n k t : ℕ) (xs d : List ℕ) → t < k → get_or (first_chunks n k xs) t d ≡ take n (drop (n * t) xs)
chunk_at n zero t xs d h = absurd (omega arith)
chunk_at n (suc k) zero xs d h = let none : 0 ≡ n * 0 = omega arith in ap (λ i. take n (drop i xs)) none
chunk_at n (suc k) (suc t) xs d h =
    chunk_at n k t (drop n xs) d (omega arith) ∙ ap (λ ys. take n ys) (drop-drop (n * t) n xs) ∙ ap (λ i. take n (drop i xs)) (let e : n + n * t ≡ n * suc t = omega arith in e)

-- a byte of a chunk
byte_at : (n k t j : ℕ) (xs d : List ℕ) → t < k → j < n → get_or (get_or (first_chunks n k xs) t d) j 0 ≡ get_or xs (n * t + j) 0
byte_at n k t j xs d h l = ap (λ ys. get_or ys j 0) (chunk_at n k t xs d h) ∙ get_or-take n (drop (n * t) xs) j 0 l ∙ get_or-drop (n * t) xs j 0

-- a word more of a block is loaded
pub word_loaded : (block w : List ℕ) (chunks : List (List ℕ)) (t r : ℕ) → length block ≡ 64 → t < 16 → chunks ≡ first_chunks 4 (length block / 4) block
    → w ≡ block_words t block → r ≡ from_be_bytes w32 (get_or chunks t []) → set w t r ≡ block_words (t + 1) block
unfolding block_words word_at
word_loaded block w chunks t r long h cut before is =
    let count : length block / 4 ≡ 16 = omega arith in
    let cut' : chunks ≡ first_chunks 4 16 block = cut ∙ ap (λ k. first_chunks 4 k block) count in
    let b0 : get_or (get_or (first_chunks 4 16 block) t []) 0 0 ≡ get_or block (4 * t) 0 = byte_at 4 16 t 0 block [] h (omega arith) ∙ ap (λ i. get_or block i 0) (let e : 4 * t + 0 ≡ 4 * t = omega arith in e) in
    let b1 = byte_at 4 16 t 1 block [] h (omega arith) in
    let b2 = byte_at 4 16 t 2 block [] h (omega arith) in
    let b3 = byte_at 4 16 t 3 block [] h (omega arith) in
    let word : r ≡ word_at block t =
    is ∙ ap (λ cs. from_be_bytes w32 (get_or cs t [])) cut'
    ∙ (λ i. b0 i * 16777216 + b1 i * 65536 + b2 i * 256 + b3 i) in
    rw add-one (ap₂ (λ xs x. set xs t x) before word)

-- sums that were made place by place
pub sums_are : (h v r : List ℕ) → length r ≡ 8 → ((i : ℕ) → i < 8 → get_or r i 0 ≡ (get_or v i 0 + get_or h i 0) % 2 ^ 32) → r ≡ sums h v
unfolding sums add32
sums_are h v r long each = fill_by_all (λ i. (get_or v i 0 + get_or h i 0) % 2 ^ 32) r 8 0 long each
