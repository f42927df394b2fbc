-- Single bits of a number: a set bit, another one, and those of 0. Assumes nothing.
use Rattle.std.proofs.Common.{◌≡◌, ℕ, suc, ◌+◌, ◌-◌, ◌*◌, ◌/◌, ◌%◌, ◌^◌, ◌<◌, ◌≤◌, max, true, false, eqb, sym, ap, ◌∙◌, ⊎_elim, arith, pow_pos, pow-add}
use lib.Bits.{bit_or, or_step, or_shr, and_mask}
use lib.Pow.{pow-lt, shl-shr}
use Rattle.std.proofs.lemmas.Nat.{div_below}
use Rattle.std.proofs.lemmas.Bool.{eq-eqb, ne_eqb, cases_lt}
use Rattle.window.specs.Heard.{bit}

-- a bit by the remainder
masked : (w k : ℕ) → bit w k ≡ eqb (w / 2 ^ k % 2) 1
masked w k = ap (λ x. eqb x 1) (and_mask (w / 2 ^ k) 1)

-- no bit of 0 is set
pub bit-zero : (k : ℕ) → bit 0 k ≡ false
bit-zero k =
    masked 0 k
    ∙ ne_eqb (0 / 2 ^ k % 2) 1 (let h = div_below 0 (2 ^ k) 1 (pow_pos k) (omega (arith, pow_pos k)) in omega arith)

-- the lowest bit of two numbers joined
lowest : (a b : ℕ) → bit_or a b % 2 ≡ max (a % 2) (b % 2)
lowest a b = omega (arith, or_step a b)

-- a power of two has no other bit
lone : (k j : ℕ) → (j ≡ k → ⊥) → 2 ^ k / 2 ^ j % 2 ≡ 0
lone k j ne = ⊎_elim low high (cases_lt j k)
  where
    low : j < k → 2 ^ k / 2 ^ j % 2 ≡ 0
    low h =
        let d : ℕ = k - j - 1 in
        let e : k ≡ suc d + j = omega arith in
        let p : 2 ^ k ≡ 2 ^ suc d * 2 ^ j = ap (λ x. 2 ^ x) e ∙ pow-add 2 (suc d) j in
        let q : 2 ^ k / 2 ^ j ≡ 2 ^ suc d = ap (λ x. x / 2 ^ j) p ∙ shl-shr (2 ^ suc d) j in
        omega arith

    high : k ≤ j → 2 ^ k / 2 ^ j % 2 ≡ 0
    high h =
        let l : 2 ^ k < 2 ^ j = pow-lt (omega arith) in
        let q = div_below (2 ^ k) (2 ^ j) 1 (pow_pos j) (omega arith) in
        omega arith

-- the bit that is set
pub bit-same : (w k : ℕ) → bit (bit_or w (2 ^ k)) k ≡ true
bit-same w k =
    let one : 2 ^ k / 2 ^ k ≡ 1 = ap (λ x. x / 2 ^ k) (omega arith) ∙ shl-shr 1 k in
    masked (bit_or w (2 ^ k)) k
    ∙ eq-eqb _ _ (ap (λ x. x % 2) (or_shr w (2 ^ k) k) ∙ omega (arith, lowest (w / 2 ^ k) (2 ^ k / 2 ^ k)))

-- the bits beside it
pub bit-other : (w k j : ℕ) → (j ≡ k → ⊥) → bit (bit_or w (2 ^ k)) j ≡ bit w j
bit-other w k j ne =
    let none = lone k j ne in
    masked (bit_or w (2 ^ k)) j
    ∙ ap (λ x. eqb x 1) (ap (λ x. x % 2) (or_shr w (2 ^ k) j) ∙ omega (arith, lowest (w / 2 ^ j) (2 ^ k / 2 ^ j)))
    ∙ sym (masked w j)
