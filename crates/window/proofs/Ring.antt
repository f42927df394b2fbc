-- What marks and cleared words leave in a ring. A ring is a list of 33 words.
use Rattle.std.proofs.Common.{◌≡◌, ℕ, zero, suc, ◌+◌, ◌-◌, ◌%◌, ◌<◌, ◌≤◌, min, true, false, List, length, get_or, set, refl, ap, ◌∙◌, ap₂, ⊎_elim, add-one, arith, length-set, get_or-set_other, get_or-set_same}
use lib.Bits.{bit_or}
use Rattle.std.proofs.lemmas.Bool.{cases_eq, cases_lt}
use Rattle.window.specs.Heard.{words, word_bits, block, place, bit, bit_of, is_marked, marked, cleared, passed}
use Rattle.window.proofs.Bits.{bit-zero, bit-same, bit-other}

-- a mark leaves the ring as long as it was
pub marked-length : (n : ℕ) (ring : List ℕ) → length (marked n ring) ≡ length ring
marked-length n ring = length-set ring (place n) _

-- a number that was marked is
pub marked-same : (n : ℕ) (ring : List ℕ) → length ring ≡ words → is_marked n (marked n ring) ≡ true
marked-same n ring whole =
    ap (λ w. bit w (n % word_bits)) (get_or-set_same ring (place n) _ 0 (omega arith)) ∙ bit-same (get_or ring (place n) 0) (n % word_bits)

-- numbers whose blocks are less than a ring apart have bits of their own
pub marked_other : (m n : ℕ) (ring : List ℕ) → length ring ≡ words → block m < block n + words → block n < block m + words
    → (m ≡ n → ⊥) → is_marked m (marked n ring) ≡ is_marked m ring
marked_other m n ring whole h k ne = ⊎_elim same_word other_word (cases_eq (place m) (place n))
  where
    word : ℕ
    word = bit_or (get_or ring (place n) 0) (bit_of n)

    same_word : place m ≡ place n → bit (get_or (set ring (place n) word) (place m) 0) (m % word_bits) ≡ bit (get_or ring (place m) 0) (m % word_bits)
    same_word e =
        rw e
        (ap (λ w. bit w (m % word_bits)) (get_or-set_same ring (place n) word 0 (omega arith))
        ∙ bit-other (get_or ring (place n) 0) (n % word_bits) (m % word_bits) (omega arith))

    other_word : (place m ≡ place n → ⊥) → bit (get_or (set ring (place n) word) (place m) 0) (m % word_bits) ≡ bit (get_or ring (place m) 0) (m % word_bits)
    other_word d = ap (λ w. bit w (m % word_bits)) (get_or-set_other ring (place n) (place m) word 0 d)

-- cleared words leave the ring as long as it was
pub cleared-length : (from count : ℕ) (ring : List ℕ) → length (cleared from count ring) ≡ length ring
unfolding cleared
cleared-length from zero ring = refl
cleared-length from (suc k) ring = length-set (cleared from k ring) _ 0 ∙ cleared-length from k ring

-- one word more is cleared
pub cleared_more : (from k p : ℕ) (ring before : List ℕ) → ring ≡ cleared from k before → p ≡ (from + k) % words
    → set ring p 0 ≡ cleared from (k + 1) before
unfolding cleared
cleared_more from k p ring before e i = rw (add-one k) (ap₂ (λ r q. set r q 0) e i)

-- a word that was not among those cleared is as it was
pub cleared-other : (from count p : ℕ) (ring : List ℕ) → ((j : ℕ) → j < count → p ≡ (from + j) % words → ⊥)
    → get_or (cleared from count ring) p 0 ≡ get_or ring p 0
unfolding cleared
cleared-other from zero p ring h = refl
cleared-other from (suc k) p ring h =
    get_or-set_other (cleared from k ring) ((from + k) % words) p 0 0 (h k (omega arith))
    ∙ cleared-other from k p ring (λ j l. h j (omega arith))

-- a word that was is 0
pub cleared-same : (from count j : ℕ) (ring : List ℕ) → length ring ≡ words → j < count → get_or (cleared from count ring) ((from + j) % words) 0 ≡ 0
unfolding cleared
cleared-same from zero j ring whole h = omega arith
cleared-same from (suc k) j ring whole h =
    ⊎_elim (now (cleared-length from k ring)) (earlier (cleared-same from k j ring whole)) (cases_eq ((from + j) % words) ((from + k) % words))
  where
    now : length (cleared from k ring) ≡ length ring → (from + j) % words ≡ (from + k) % words
        → get_or (set (cleared from k ring) ((from + k) % words) 0) ((from + j) % words) 0 ≡ 0
    now l e = rw e (get_or-set_same (cleared from k ring) ((from + k) % words) 0 0 (omega arith))

    earlier : (j < k → get_or (cleared from k ring) ((from + j) % words) 0 ≡ 0) → ((from + j) % words ≡ (from + k) % words → ⊥)
        → get_or (set (cleared from k ring) ((from + k) % words) 0) ((from + j) % words) 0 ≡ 0
    earlier before d =
        get_or-set_other (cleared from k ring) ((from + k) % words) ((from + j) % words) 0 0 d
        ∙ before (⊎_elim (λ (l : j < k). l) (λ (l : k ≤ j). absurd (d (ap (λ x. (from + x) % words) (omega arith)))) (cases_lt j k))

-- of the blocks that stay in the ring, those up to the highest number keep their bits
pub passed_kept : (m top n : ℕ) (ring : List ℕ) → block m ≤ block top → block n < block m + words
    → is_marked m (passed top n ring) ≡ is_marked m ring
passed_kept m top n ring h k =
    ap (λ w. bit w (m % word_bits)) (cleared-other (block top + 1) (min (block n - block top) words) (place m) ring (λ j l e. omega arith))

-- and those above it, up to that of the new highest, have none
pub passed-clear : (m top n : ℕ) (ring : List ℕ) → length ring ≡ words → block top < block m → block m ≤ block n → is_marked m (passed top n ring) ≡ false
passed-clear m top n ring whole h k =
    let j : ℕ = (block m - block top - 1) % words in
    let e : place m ≡ (block top + 1 + j) % words = omega arith in
    let z = cleared-same (block top + 1) (min (block n - block top) words) j ring whole (omega arith) in
    ap (λ w. bit w (m % word_bits)) (ap (λ p. get_or (passed top n ring) p 0) e ∙ z) ∙ bit-zero (m % word_bits)
