-- How an address is read part by part. Assumes nothing.
use Rattle.std.proofs.Common.{◌≡◌, ℕ, zero, suc, ◌+◌, ◌-◌, ◌*◌, ◌^◌, ◌<◌, ◌≤◌, List, [], ◌∷◌, get_or, Some, None, Option, refl, sym, ap, ◌∙◌, arith}
use Rattle.std.proofs.lemmas.Iterator.{YieldsList}
use Rattle.addresses.specs.Dotted.{bytes_read}
use Rattle.std.specs.List.{slice_split}
use Rattle.addresses.specs.Marks.{dot, front, behind}
use Rattle.addresses.specs.Numbers.{and_then, number_read}
use Rattle.addresses.proofs.Cutting.{others, pieces_are}
use Rattle.addresses.proofs.Giving.{had_none, had_some}

-- the limit of each part is that of a byte
abbrev limit_at : ℕ → ℕ
limit_at turn = get_or (255 ∷ 255 ∷ 255 ∷ 255 ∷ []) turn 0

pub limit_is : (turn : ℕ) → turn < 4 → limit_at turn ≡ 255
limit_is zero less = refl
limit_is (suc zero) less = refl
limit_is (suc (suc zero)) less = refl
limit_is (suc (suc (suc zero))) less = refl
limit_is (suc (suc (suc (suc i)))) less = absurd (omega arith)

module _ (n : ℕ) (t : List ℕ) where
  -- the first part, and then the others
  pub part-first : (k : ℕ) → bytes_read (suc k) n (slice_split dot t) ≡ and_then (number_read 255 (front dot t)) (λ b. bytes_read k (n * 256 + b) (others dot (behind dot t)))
  part-first k = ap (bytes_read (suc k) n) (pieces_are dot t)

  -- a byte, and more
  pub part_more : (k b : ℕ) (u : List ℕ) → number_read 255 (front dot t) ≡ Some b → behind dot t ≡ Some u → bytes_read (suc k) n (slice_split dot t) ≡ bytes_read k (n * 256 + b) (slice_split dot u)
  part_more k b u good some = part-first k ∙ (λ i. and_then (good i) (λ c. bytes_read k (n * 256 + c) (others dot (some i))))

  -- the last byte
  pub part_last : (b : ℕ) → number_read 255 (front dot t) ≡ Some b → behind dot t ≡ None → bytes_read 1 n (slice_split dot t) ≡ Some (n * 256 + b)
  part_last b good none = part-first 0 ∙ (λ i. and_then (good i) (λ c. bytes_read 0 (n * 256 + c) (others dot (none i))))

-- after so many bytes that are a number, what an iterator over parts has left is the others, which
-- make it this one or none
pub record Rest {S A : Type 0} (steps : S → Option A → S → Type 0) (v : A → List ℕ) (s : S) (turn n : ℕ) (o : Option ℕ) : Type 0 where
  pub parts : List (List ℕ)
  pub yields : YieldsList steps v s parts
  pub read : bytes_read (4 - turn) n parts ≡ o

module _ {S A : Type 0} {steps : S → Option A → S → Type 0} {v : A → List ℕ} {s : S} {turn n : ℕ} {o : Option ℕ} (rest : Rest steps v s turn n o) where
  read_all : 4 ≤ turn → bytes_read 0 n rest.parts ≡ o
  read_all all = let none : 0 ≡ 4 - turn = omega arith in ap (λ k. bytes_read k n rest.parts) none ∙ rest.read

  read_more : turn < 4 → bytes_read (suc (3 - turn)) n rest.parts ≡ o
  read_more more = let some : suc (3 - turn) ≡ 4 - turn = omega arith in ap (λ k. bytes_read k n rest.parts) some ∙ rest.read

  -- all bytes were read
  pub rest_end : {t : S} → 4 ≤ turn → steps s None t → Some n ≡ o
  rest_end all step = ap (bytes_read 0 n) (sym (had_none rest.parts rest.yields step)) ∙ read_all all

  -- too many parts
  pub rest_over : {t : S} {x : A} → 4 ≤ turn → steps s (Some x) t → None ≡ o
  rest_over all step = let had = had_some rest.parts rest.yields step in ap (bytes_read 0 n) (sym had.1) ∙ read_all all

  -- too few parts
  pub rest_short : {t : S} → turn < 4 → steps s None t → None ≡ o
  rest_short more step = ap (bytes_read (suc (3 - turn)) n) (sym (had_none rest.parts rest.yields step)) ∙ read_more more

  -- a part that is no byte
  pub rest_bad : {t : S} {x : A} → turn < 4 → steps s (Some x) t → None ≡ number_read (limit_at turn) (v x) → None ≡ o
  rest_bad {x = x} more step bad =
      let had = had_some rest.parts rest.yields step in
      ap (λ p. and_then p (λ b. bytes_read (3 - turn) (n * 256 + b) had.0)) (bad ∙ ap (λ l. number_read l (v x)) (limit_is turn more)) ∙ ap (bytes_read (suc (3 - turn)) n) (sym had.1) ∙ read_more more

  -- a byte
  pub rest_more : {t : S} {x : A} {b : ℕ} → turn < 4 → steps s (Some x) t → Some b ≡ number_read (limit_at turn) (v x) → Rest steps v t (turn + 1) (n * 256 + b) o
  rest_more {x = x} {b = b} more step good =
      let had = had_some rest.parts rest.yields step in
      let less : 4 - (turn + 1) ≡ 3 - turn = omega arith in
      record {
        parts = had.0;
        yields = had.2;
        read =
            ap (λ k. bytes_read k (n * 256 + b) had.0) less
            ∙ ap (λ p. and_then p (λ c. bytes_read (3 - turn) (n * 256 + c) had.0)) (good ∙ ap (λ l. number_read l (v x)) (limit_is turn more))
            ∙ ap (bytes_read (suc (3 - turn)) n) (sym had.1)
            ∙ read_more more;
      }

-- a number of fewer than four bytes has room for another
pub room : (n i : ℕ) → n < 2 ^ (8 * i) → i < 4 → n < 2 ^ 24
room n zero small less = omega arith
room n (suc zero) small less = omega arith
room n (suc (suc zero)) small less = omega arith
room n (suc (suc (suc zero))) small less = omega arith
room n (suc (suc (suc (suc i)))) small less = absurd (omega arith)

-- with another byte it is as long as one byte more allows
pub room_more : (n i b : ℕ) → n < 2 ^ (8 * i) → i < 4 → b < 256 → n * 256 + b < 2 ^ (8 * (i + 1))
room_more n zero b small less byte = omega arith
room_more n (suc zero) b small less byte = omega arith
room_more n (suc (suc zero)) b small less byte = omega arith
room_more n (suc (suc (suc zero))) b small less byte = omega arith
room_more n (suc (suc (suc (suc i)))) b small less byte = absurd (omega arith)
