-- The message schedule word by word, and rounds that are taken in groups.
use Rattle.std.proofs.Common.{◌≡◌, ℕ, zero, suc, ◌+◌, ◌-◌, ◌*◌, ◌≤◌, List, [], ◌∷◌, ◌++◌, length, get_or, take, drop, sym, refl, ap, ◌∙◌, ap₂, lit≤, arith, length-drop, take-add}
use Rattle.std.specs.List.{fold, zip}
use Rattle.std.specs.Simd.{first_chunks}
use Rattle.std.proofs.Math.Seq.{take-suc}
use Rattle.std.proofs.lemmas.List.{take_all, length-take-le}
use Rattle.sha.specs.Sha256.{next_word, extended, round_constants, round, round_at, rounds}

-- the schedule has its first sixteen words
pub extended_none : (w : List ℕ) → w ≡ extended 0 w
unfolding extended
extended_none w = refl

-- a word more of the schedule
pub extended_more : (w x : List ℕ) (t : ℕ) → x ≡ extended (t - 16) w → 16 ≤ t → next_word t x ≡ extended (t + 1 - 16) w
unfolding extended
extended_more w x t e h =
    let n : 16 + (t - 16) ≡ t = omega arith in
    let more : t + 1 - 16 ≡ suc (t - 16) = omega arith in
    ap₂ (λ k y. next_word k y) (sym n) e ∙ ap (λ k. extended k w) (sym more)

pub ruleset words_extended = (extended_none, extended_more)

-- rounds by their constants and words
abbrev pub rounds_by : List ℕ → List ℕ → List ℕ → List ℕ
rounds_by v ks ws = fold (λ x p. round x p.0 p.1) v (zip ks ws)

rounds_by-append : (v ks ws ks' ws' : List ℕ) → length ks ≡ length ws → rounds_by v (ks ++ ks') (ws ++ ws') ≡ rounds_by (rounds_by v ks ws) ks' ws'
rounds_by-append v [] [] ks' ws' e = refl
rounds_by-append v (k ∷ ks) [] ks' ws' e = cc
rounds_by-append v [] (w ∷ ws) ks' ws' e = cc
rounds_by-append v (k ∷ ks) (w ∷ ws) ks' ws' e = rounds_by-append (round v k w) ks ws ks' ws' (omega arith)

-- the first n rounds
rounds_first : (n : ℕ) (w v : List ℕ) → n ≤ length round_constants → n ≤ length w → rounds n w v ≡ rounds_by v (take n round_constants) (take n w)
unfolding rounds round_at
rounds_first zero w v hk hw = refl
rounds_first (suc n) w v hk hw =
    let k : List ℕ = take n round_constants in
    let same : length k ≡ length (take n w) = length-take-le n round_constants (omega arith) ∙ sym (length-take-le n w (omega arith)) in
    ap (λ x. round x (get_or round_constants n 0) (get_or w n 0)) (rounds_first n w v (omega arith) (omega arith))
    ∙ sym (rounds_by-append v k (take n w) (get_or round_constants n 0 ∷ []) (get_or w n 0 ∷ []) same)
    ∙ sym (ap₂ (λ x y. rounds_by v x y) (take-suc round_constants n 0 hk) (take-suc w n 0 hw))

-- groups of eight
pub rounds_grouped : (count : ℕ) (ks ws v : List ℕ) → 8 * count ≤ length ks → 8 * count ≤ length ws
    → fold (λ x p. rounds_by x p.0 p.1) v (zip (first_chunks 8 count ks) (first_chunks 8 count ws)) ≡ rounds_by v (take (8 * count) ks) (take (8 * count) ws)
rounds_grouped zero ks ws v hk hw = refl
rounds_grouped (suc n) ks ws v hk hw =
    let more : 8 * suc n ≡ 8 + 8 * n = omega arith in
    let same : length (take 8 ks) ≡ length (take 8 ws) = length-take-le 8 ks (omega arith) ∙ sym (length-take-le 8 ws (omega arith)) in
    rounds_grouped n (drop 8 ks) (drop 8 ws) (rounds_by v (take 8 ks) (take 8 ws)) (omega (arith, length-drop 8 ks)) (omega (arith, length-drop 8 ws))
    ∙ sym (rounds_by-append v (take 8 ks) (take 8 ws) (take (8 * n) (drop 8 ks)) (take (8 * n) (drop 8 ws)) same)
    ∙ sym (ap₂ (λ x y. rounds_by v x y) (ap (λ k. take k ks) more ∙ take-add 8 (8 * n) ks) (ap (λ k. take k ws) more ∙ take-add 8 (8 * n) ws))

-- all rounds, in groups of eight
pub rounds_of_eights : (ks ws v : List ℕ) → length ks ≡ 64 → length ws ≡ 64 → fold (λ x p. rounds_by x p.0 p.1) v (zip (first_chunks 8 8 ks) (first_chunks 8 8 ws)) ≡ rounds_by v ks ws
rounds_of_eights ks ws v hk hw = rounds_grouped 8 ks ws v (omega arith) (omega arith) ∙ ap₂ (λ x y. rounds_by v x y) (take_all 64 ks (omega arith)) (take_all 64 ws (omega arith))

-- all rounds, by the constants
pub rounds_all : (w v : List ℕ) → length w ≡ 64 → rounds_by v round_constants w ≡ rounds 64 w v
unfolding round_constants
rounds_all w v h = sym (rounds_first 64 w v (lit≤ tt) (omega arith) ∙ ap (λ x. rounds_by v round_constants x) (take_all 64 w (omega arith)))
