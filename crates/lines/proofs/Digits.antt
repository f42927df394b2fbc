-- What one turn of reading and of writing hex digits does, and that they are inverse. Assumes nothing.
use Rattle.std.proofs.Common.{◌≡◌, ℕ, ◌+◌, ◌*◌, ◌/◌, ◌%◌, ◌<◌, List, [], ◌∷◌, ◌++◌, length, get_or, drop, Some, None, Ok, Err, Result, sym, refl, ap, ◌∙◌, append_assoc, arith}
use Rattle.std.proofs.lemmas.List.{drop_more, drop_all}
use Rattle.std.proofs.lemmas.Bool.Decides.{nat_tests}
use Rattle.lines.specs.declared.faults.LineFault.{LineFault}
use Rattle.lines.specs.declared.faults.LineFault.TheVariants.{NotHex, OddHex}
use Rattle.lines.specs.Hex.{digit_value, digit_byte, encoded, onto, with_pair, single, decoded, GivesBack}

onto-onto : (xs ys : List ℕ) (r : Result (List ℕ) LineFault) → onto xs (onto ys r) ≡ onto (xs ++ ys) r
onto-onto xs ys (Ok more) = ap Ok (sym (append_assoc xs ys more))
onto-onto xs ys (Err e) = refl

-- a first character that is no digit is the fault, whatever follows it
first_bad : (column x : ℕ) (rest : List ℕ) → digit_value x ≡ None → decoded column (x ∷ rest) ≡ Err (NotHex column)
first_bad column x [] bad = ap (single column) bad
first_bad column x (y ∷ rest) bad = λ i. with_pair column (bad i) (digit_value y) (decoded (column + 2) rest)

module _ (out : List ℕ) (at : ℕ) (line : List ℕ) where
  -- what was read so far, before what the line stands for from here on
  abbrev pub sofar : Result (List ℕ) LineFault
  sofar = onto out (decoded (at + 1) (drop at line))

  pub bad_high : at < length line → digit_value (get_or line at 0) ≡ None → sofar ≡ Err (NotHex (at + 1))
  bad_high more bad =
      ap (λ t. onto out (decoded (at + 1) t)) (drop_more line at 0 more) ∙ ap (onto out) (first_bad (at + 1) (get_or line at 0) (drop (at + 1) line) bad)

  pub no_low : (h : ℕ) → at + 1 ≡ length line → digit_value (get_or line at 0) ≡ Some h → sofar ≡ Err OddHex
  no_low h last high =
      let more : at < length line = omega arith in
      let rest : drop (at + 1) line ≡ [] = drop_all (at + 1) line (omega arith) in
      ap (λ t. onto out (decoded (at + 1) t)) (drop_more line at 0 more ∙ ap (λ t. get_or line at 0 ∷ t) rest) ∙ ap (λ d. onto out (single (at + 1) d)) high

  two : at + 1 < length line → drop at line ≡ get_or line at 0 ∷ get_or line (at + 1) 0 ∷ drop (at + 2) line
  two more =
      let first : at < length line = omega arith in
      let next : at + 1 + 1 ≡ at + 2 = omega arith in
      drop_more line at 0 first ∙ ap (λ t. get_or line at 0 ∷ t) (drop_more line (at + 1) 0 more ∙ ap (λ n. get_or line (at + 1) 0 ∷ drop n line) next)

  pub bad_low : (h : ℕ) → at + 1 < length line → digit_value (get_or line at 0) ≡ Some h → digit_value (get_or line (at + 1) 0) ≡ None → sofar ≡ Err (NotHex (at + 2))
  bad_low h more high bad =
      let next : at + 1 + 1 ≡ at + 2 = omega arith in
      ap (λ t. onto out (decoded (at + 1) t)) (two more)
      ∙ (λ i. onto out (with_pair (at + 1) (high i) (bad i) (decoded (at + 1 + 2) (drop (at + 2) line))))
      ∙ ap (λ n. Err (NotHex n)) next

-- two digits read: one byte more, and two characters less
pub pair_read : (out : List ℕ) (at : ℕ) (line : List ℕ) (h l : ℕ) → at + 1 < length line → digit_value (get_or line at 0) ≡ Some h → digit_value (get_or line (at + 1) 0) ≡ Some l → sofar out at line ≡ sofar (out ++ (h * 16 + l) ∷ []) (at + 2) line
pair_read out at line h l more high low =
    let next : at + 1 + 2 ≡ at + 2 + 1 = omega arith in
    ap (λ t. onto out (decoded (at + 1) t)) (two out at line more)
    ∙ (λ i. onto out (with_pair (at + 1) (high i) (low i) (decoded (next i) (drop (at + 2) line))))
    ∙ onto-onto out ((h * 16 + l) ∷ []) _

value_of_digit : (v : ℕ) → v < 16 → digit_value (digit_byte v) ≡ Some v
value_of_digit v small = grind (arith, nat_tests)

pub gives_back : GivesBack
gives_back column [] all = refl
gives_back column (b ∷ bs) all =
    let high : b / 16 < 16 = omega arith in
    let low : b % 16 < 16 = omega arith in
    let whole : b / 16 * 16 + b % 16 ≡ b = omega arith in
    (λ i. with_pair column (value_of_digit (b / 16) high i) (value_of_digit (b % 16) low i) (gives_back (column + 2) bs all.1 i))
    ∙ ap (λ x. Ok (x ∷ bs)) whole

-- one byte written: two digits more, and one byte less to write
pub byte_written : (text : List ℕ) (i : ℕ) (bytes : List ℕ) → i < length bytes → text ++ encoded (drop i bytes) ≡ ((text ++ digit_byte (get_or bytes i 0 / 16) ∷ []) ++ digit_byte (get_or bytes i 0 % 16) ∷ []) ++ encoded (drop (i + 1) bytes)
byte_written text i bytes more = ap (λ t. text ++ encoded t) (drop_more bytes i 0 more) ∙ simp append_assoc
