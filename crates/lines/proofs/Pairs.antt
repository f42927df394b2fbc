-- What stands on a line from a place on, cut into pairs. Assumes nothing.
use Rattle.std.proofs.Common.{◌≡◌, ℕ, zero, suc, ◌+◌, ◌*◌, ◌/◌, ◌-◌, ◌<◌, List, [], ◌∷◌, ◌++◌, length, get_or, drop, Some, None, Ok, Err, Result, sym, refl, ap, ◌∙◌, arith, length-drop, get_or-drop}
use Rattle.std.proofs.lemmas.List.{get_or-take, drop-drop}
use Rattle.std.specs.Simd.{first_chunks}
use Rattle.lines.specs.declared.faults.LineFault.{LineFault}
use Rattle.lines.specs.declared.faults.LineFault.TheVariants.{NotHex}
use Rattle.lines.specs.Hex.{digit_value, decoded, onto, IsCut}
use Rattle.lines.proofs.Digits.{sofar, bad_high, bad_low, pair_read}

length-pairs : (n : ℕ) (xs : List ℕ) → length (first_chunks 2 n xs) ≡ n
length-pairs zero xs = refl
length-pairs (suc n) xs = ap suc (length-pairs n (drop 2 xs))

-- the characters of a pair
pair_at : (n : ℕ) (xs : List ℕ) (i k : ℕ) → i < n → k < 2 → get_or (get_or (first_chunks 2 n xs) i []) k 0 ≡ get_or xs (2 * i + k) 0
pair_at zero xs i k i-in k-in = absurd (omega arith)
pair_at (suc n) xs zero k i-in k-in = get_or-take 2 xs k 0 k-in ∙ ap (λ j. get_or xs j 0) (omega arith)
pair_at (suc n) xs (suc i) k i-in k-in =
    pair_at n (drop 2 xs) i k (omega arith) k-in ∙ get_or-drop 2 xs (2 * i + k) 0 ∙ ap (λ j. get_or xs j 0) (omega arith)

pub cut : (line : List ℕ) (start : ℕ) → IsCut line start (first_chunks 2 (length (drop start line) / 2) (drop start line)) (drop (length (drop start line) / 2 * 2) (drop start line))
cut line start =
    let text : List ℕ = drop start line in
    let n : ℕ = length text / 2 in
    let pairs : length (first_chunks 2 n text) ≡ n = length-pairs n text in
    let long : length text ≡ length line - start = length-drop start line in
    let from : (i k j : ℕ) → start + (2 * i + k) ≡ j → i < length (first_chunks 2 n text) → k < 2 → get_or (get_or (first_chunks 2 n text) i []) k 0 ≡ get_or line j 0 =
    λ i k j at i-in k-in. pair_at n text i k (omega arith) k-in ∙ get_or-drop start line (2 * i + k) 0 ∙ ap (λ m. get_or line m 0) at in
    record {
      inside = λ i i-in. omega arith;
      first = λ i i-in. from i 0 (start + 2 * i) (omega arith) i-in (omega arith);
      second = λ i i-in. from i 1 (start + 2 * i + 1) (omega arith) i-in (omega arith);
      rest = sym (drop-drop (n * 2) start line ∙ ap (λ m. drop m line) (omega arith));
      short = rw (length-drop (n * 2) text) (omega arith);
    }

-- before the first pair nothing was read
onto-nothing : (r : Result (List ℕ) LineFault) → r ≡ onto [] r
onto-nothing (Ok more) = refl
onto-nothing (Err e) = refl

pub begun : (start : ℕ) (line : List ℕ) → decoded (start + 1) (drop start line) ≡ sofar [] (start + 2 * 0) line
begun start line = onto-nothing (decoded (start + 1) (drop start line)) ∙ ap (λ at. sofar [] at line) (omega arith)

module _ (out : List ℕ) (start : ℕ) (line : List ℕ) (pairs : List (List ℕ)) (single : List ℕ) (parts : IsCut line start pairs single) (i : ℕ) (here : i < length pairs) where
  pub bad_first : digit_value (get_or (get_or pairs i []) 0 0) ≡ None → sofar out (start + 2 * i) line ≡ Err (NotHex (start + 2 * i + 1))
  bad_first bad = bad_high out (start + 2 * i) line (omega (arith, parts.inside i here)) (sym (ap digit_value (parts.first i here)) ∙ bad)

  pub bad_second : (h : ℕ) → digit_value (get_or (get_or pairs i []) 0 0) ≡ Some h → digit_value (get_or (get_or pairs i []) 1 0) ≡ None → sofar out (start + 2 * i) line ≡ Err (NotHex (start + 2 * i + 1 + 1))
  bad_second h high bad =
      bad_low out (start + 2 * i) line h (parts.inside i here) (sym (ap digit_value (parts.first i here)) ∙ high) (sym (ap digit_value (parts.second i here)) ∙ bad)
      ∙ ap (λ n. Err (NotHex n)) (omega arith)

  pub pair_done : (h l : ℕ) → digit_value (get_or (get_or pairs i []) 0 0) ≡ Some h → digit_value (get_or (get_or pairs i []) 1 0) ≡ Some l → sofar out (start + 2 * i) line ≡ sofar (out ++ (h * 16 + l) ∷ []) (start + 2 * (i + 1)) line
  pair_done h l high low =
      pair_read out (start + 2 * i) line h l (parts.inside i here) (sym (ap digit_value (parts.first i here)) ∙ high) (sym (ap digit_value (parts.second i here)) ∙ low)
      ∙ ap (λ at. sofar (out ++ (h * 16 + l) ∷ []) at line) (omega arith)
