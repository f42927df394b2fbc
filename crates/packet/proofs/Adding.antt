-- One turn of adding up, and what the ones' complement sum is of the plain one. Assumes nothing.
use Rattle.std.proofs.Common.{◌≡◌, ℕ, zero, suc, ◌+◌, ◌-◌, ◌*◌, ◌/◌, ◌%◌, ◌<◌, ◌≤◌, cond, eqb, ◌⊎◌, List, [], ◌∷◌, ◌++◌, length, get_or, drop, refl, ap, ◌∙◌, ⊎_elim, arith}
use Rattle.std.proofs.lemmas.Bool.Decides.{nat_tests}
use Rattle.std.specs.List.{AllByRecursion}
use Rattle.std.specs.Simd.{first_chunks}
use Rattle.packet.specs.Sums.{ones_add, ones_sum, RightSum, with_field}

length-pairs : (n : ℕ) (xs : List ℕ) → length (first_chunks 2 n xs) ≡ n
length-pairs zero xs = refl
length-pairs (suc n) xs = ap suc (length-pairs n (drop 2 xs))

-- a pair that is added stands at the front of what is left
pair_left : (n i sum : ℕ) (xs : List ℕ) → n * 2 ≤ length xs → i < n
    → ones_sum (ones_add sum (get_or (get_or (first_chunks 2 n xs) i []) 0 0 * 256 + get_or (get_or (first_chunks 2 n xs) i []) 1 0)) (drop (suc (suc (i * 2))) xs) ≡ ones_sum sum (drop (i * 2) xs)
pair_left zero i sum xs long i-in = absurd (omega arith)
pair_left (suc n) i sum [] long i-in = absurd (omega arith)
pair_left (suc n) i sum (a ∷ []) long i-in = absurd (omega arith)
pair_left (suc n) zero sum (a ∷ b ∷ xs) long i-in = refl
pair_left (suc n) (suc i) sum (a ∷ b ∷ xs) long i-in =
    let next : suc i * 2 ≡ suc (suc (i * 2)) = omega arith in
    rw next (pair_left n i sum xs (omega arith) (omega arith))

-- a pair of bytes is added, and the rest is left
pub pair_added : (bytes : List ℕ) (pairs : List (List ℕ)) (i sum new : ℕ) → pairs ≡ first_chunks 2 (length bytes / 2) bytes → i < length pairs → new ≡ ones_add sum (get_or (get_or pairs i []) 0 0 * 256 + get_or (get_or pairs i []) 1 0)
    → ones_sum sum (drop (i * 2) bytes) ≡ ones_sum 0 bytes → ones_sum new (drop ((i + 1) * 2) bytes) ≡ ones_sum 0 bytes
pair_added bytes pairs i sum new cut i-in is before =
    let next : (i + 1) * 2 ≡ suc (suc (i * 2)) = omega arith in
    let inside : i < length bytes / 2 = omega (arith, ap length cut, length-pairs (length bytes / 2) bytes) in
    rw (next, is, cut) (pair_left (length bytes / 2) i sum bytes (omega arith) inside ∙ before)

-- a last byte is added as the high one
pub last_added : (sum new : ℕ) (rest : List ℕ) → length rest ≡ 1 → new ≡ ones_add sum (get_or rest 0 0 * 256 + 0) → new ≡ ones_sum sum rest
last_added sum new [] one is = absurd (omega arith)
last_added sum new (a ∷ []) one is = is
last_added sum new (a ∷ b ∷ rest) one is = absurd (omega arith)

-- nothing is left
pub none_left : (sum : ℕ) (rest : List ℕ) → length rest ≡ 0 → sum ≡ ones_sum sum rest
none_left sum [] none = refl
none_left sum (a ∷ rest) none = absurd (omega arith)

-- the plain sum of the 16-bit numbers
abbrev plain : List ℕ → ℕ
plain [] = 0
plain (last ∷ []) = last * 256
plain (high ∷ low ∷ rest) = high * 256 + low + plain rest

-- what is left of a plain sum where the carries are brought round: 0 only of 0
abbrev folded : ℕ → ℕ
folded n = cond (eqb n 0) 0 (1 + (n - 1) % 65535)

add_folded : (n w s : ℕ) → w < 65536 → s ≡ folded n → ones_add s w ≡ folded (n + w)
add_folded n w s small is = grind (arith, nat_tests)

sum_folded : (bs : List ℕ) (s n : ℕ) → AllByRecursion (λ b. b < 256) bs → s ≡ folded n → ones_sum s bs ≡ folded (n + plain bs)
sum_folded [] s n all is = is ∙ ap folded (omega arith)
sum_folded (last ∷ []) s n all is = add_folded n (last * 256 + 0) s (omega arith) is ∙ ap folded (omega arith)
sum_folded (high ∷ low ∷ rest) s n all is =
    sum_folded rest (ones_add s (high * 256 + low)) (n + (high * 256 + low)) all.1.1 (add_folded n (high * 256 + low) s (omega arith) is) ∙ ap folded (omega arith)

plain_append : (k : ℕ) (xs ys : List ℕ) → length xs ≡ k + k → plain (xs ++ ys) ≡ plain xs + plain ys
plain_append k [] ys even = omega arith
plain_append zero (x ∷ xs) ys even = absurd (omega arith)
plain_append (suc k) (x ∷ []) ys even = absurd (omega arith)
plain_append (suc k) (x ∷ y ∷ xs) ys even = omega (arith, plain_append k xs ys (omega arith))

all_zeroed : (xs ys : List ℕ) (h l : ℕ) → AllByRecursion (λ b. b < 256) (xs ++ h ∷ l ∷ ys) → AllByRecursion (λ b. b < 256) (xs ++ 0 ∷ 0 ∷ ys)
all_zeroed [] ys h l all = (omega arith, (omega arith, all.1.1))
all_zeroed (x ∷ xs) ys h l all = (all.0, all_zeroed xs ys h l all.1)

field_small : (xs ys : List ℕ) (h l : ℕ) → AllByRecursion (λ b. b < 256) (xs ++ h ∷ l ∷ ys) → h * 256 + l < 65536
field_small [] ys h l all = omega arith
field_small (x ∷ xs) ys h l all = field_small xs ys h l all.1

-- by the plain sum o of all other numbers, w of the field and the two folded sums
right_by : (o w with without : ℕ) → w < 65536 → with ≡ folded (o + w) → without ≡ folded o → (with ≡ 65535 → (w ≡ 65535 - without) ⊎ ((w ≡ 65535) × (65535 - without ≡ 0))) × ((w ≡ 65535 - without) ⊎ ((w ≡ 65535) × (65535 - without ≡ 0)) → with ≡ 65535)
right_by o w with without small e f = (λ h. split h, λ h. ⊎_elim (λ p. grind (arith, nat_tests)) (λ p. grind (arith, nat_tests)) h)
  where
    split : with ≡ 65535 → (w ≡ 65535 - without) ⊎ ((w ≡ 65535) × (65535 - without ≡ 0))
    split h = grind (arith, nat_tests)

pub right_sum : RightSum
right_sum front back high low ten all =
    let split : (h l : ℕ) → plain (with_field front h l back) ≡ plain front + plain back + (h * 256 + l) = λ h l. omega (arith, plain_append 5 front (h ∷ l ∷ back) ten) in
    right_by (plain front + plain back) (high * 256 + low) (ones_sum 0 (with_field front high low back)) (ones_sum 0 (with_field front 0 0 back)) (field_small front back high low all)
    (sum_folded (with_field front high low back) 0 0 all refl ∙ ap folded (omega (arith, split high low)))
    (sum_folded (with_field front 0 0 back) 0 0 (all_zeroed front back high low all) refl ∙ ap folded (omega (arith, split 0 0)))
