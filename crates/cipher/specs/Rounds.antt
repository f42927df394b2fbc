-- The quarter round over any kind of words: those of one state, or rows of words of many.
-- Assumes nothing.
use Rattle.std.specs.Prelude.{ℕ, List, bit_xor, slice_index, slice_set}
use Rattle.cipher.specs.ChaCha20.{add32, turn_left}

-- 2.1: the four lines `a += b; d ^= a; d <<<= n`, where `sum a b` adds and `turn n d a` is what d becomes
unfoldable pub quarter : {W : Type 0} → (W → W → W) → (ℕ → W → W → W) → W → W → W → W → W × W × W × W
quarter sum turn a b c d =
    let a1 = sum a b in
    let d1 = turn 16 d a1 in
    let c1 = sum c d1 in
    let b1 = turn 12 b c1 in
    let a2 = sum a1 b1 in
    let d2 = turn 8 d1 a2 in
    let c2 = sum c1 d2 in
    (a2, turn 7 b1 c2, c2, d2)

-- the quarter round on the words at four places of a state
unfoldable pub quarter_at : ℕ → ℕ → ℕ → ℕ → List ℕ → List ℕ
quarter_at a b c d s =
    let q = quarter add32 (λ n x y. turn_left n (bit_xor x y)) (slice_index s a) (slice_index s b) (slice_index s c) (slice_index s d) in
    slice_set (slice_set (slice_set (slice_set s a q.0) b q.1) c q.2) d q.3
