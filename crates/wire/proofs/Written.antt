-- A word is written into lent memory part by part. Assumes nothing.
use Rattle.std.proofs.Common.{◌≡◌, ℕ, ◌+◌, ◌≤◌, List, [], ◌++◌, length, take, drop, sym, refl, ap, ◌∙◌, append_assoc, arith}
use borrow.Rule.Slice.PartMut.{put_mid}
use Rattle.std.proofs.lemmas.List.{append-nil, drop_all, take_at, drop_at, drop-drop, take-append-drop, length-take-le, length-drop, length-append}
use Rattle.cipher.specs.ChaCha20.{encrypt}
use Rattle.wire.specs.Keys.{sum_of}
use Rattle.wire.specs.Words.{sealed_by}

-- what is written in the middle of three parts
pub middle : (p q r ys : List ℕ) (a k : ℕ) → length p ≡ a → length q ≡ k → put_mid a k (p ++ (q ++ r)) ys ≡ p ++ (ys ++ r)
middle p q r ys a k la lk =
    let front : take a (p ++ (q ++ r)) ≡ p = take_at p (q ++ r) a la in
    let back : drop a (p ++ (q ++ r)) ≡ q ++ r = drop_at p (q ++ r) a la in
    let past : drop k (q ++ r) ≡ r = drop_at q r k lk in
    rw (front, back, past) refl

-- the same, where only the length of what is there is known
pub over : (p t ys : List ℕ) (a k : ℕ) → length p ≡ a → k ≤ length t → put_mid a k (p ++ t) ys ≡ p ++ (ys ++ drop k t)
over p t ys a k la lk =
    ap (λ x. put_mid a k (p ++ x) ys) (sym (take-append-drop k t)) ∙ middle p (take k t) (drop k t) ys a k la (length-take-le k t lk)

-- clear bytes, inside, the inside turned, and the sum: after that the word stands at the front, and what was behind it stays
pub sealed_over_lem : (key turning head nonce inside out enc sum : List ℕ) (n k j m : ℕ)
    → length head ≡ 19 → length inside ≡ n → 35 + n ≤ length out → k ≡ n → j ≡ 16 → m ≡ 19 + n → length enc ≡ n
    → enc ≡ encrypt turning 0 nonce (take k (drop 19 (put_mid 19 k (head ++ drop 19 out) inside)))
    → sum ≡ sum_of key (take m (put_mid 19 k (put_mid 19 k (head ++ drop 19 out) inside) enc))
    → put_mid (19 + n) j (put_mid 19 k (put_mid 19 k (head ++ drop 19 out) inside) enc) sum ≡ sealed_by key turning head nonce inside ++ drop (35 + n) out
unfolding sealed_by
sealed_over_lem key turning head nonce inside out enc sum n k j m lh li room hk hj hm le is-enc is_sum =
    let t : List ℕ = drop 19 out in
    let lt : k ≤ length t = simp length-drop (omega arith) in
    let first : put_mid 19 k (head ++ t) inside ≡ head ++ (inside ++ drop k t) = over head t inside 19 k lh lt in
    let second : put_mid 19 k (put_mid 19 k (head ++ t) inside) enc ≡ head ++ (enc ++ drop k t) =
    ap (λ x. put_mid 19 k x enc) first ∙ middle head inside (drop k t) enc 19 k lh (li ∙ sym hk) in
    let plain : take k (drop 19 (put_mid 19 k (head ++ t) inside)) ≡ inside =
    ap (λ x. take k (drop 19 x)) first ∙ ap (take k) (drop_at head (inside ++ drop k t) 19 lh) ∙ take_at inside (drop k t) k (li ∙ sym hk) in
    let turned : enc ≡ encrypt turning 0 nonce inside = is-enc ∙ ap (encrypt turning 0 nonce) plain in
    let both : length (head ++ enc) ≡ 19 + n = simp length-append (omega arith) in
    let whole : put_mid 19 k (put_mid 19 k (head ++ t) inside) enc ≡ (head ++ enc) ++ drop k t = second ∙ sym (append_assoc head enc (drop k t)) in
    let is : take m (put_mid 19 k (put_mid 19 k (head ++ t) inside) enc) ≡ head ++ enc = ap (take m) whole ∙ take_at (head ++ enc) (drop k t) m (both ∙ sym hm) in
    let rest : drop j (drop k t) ≡ drop (35 + n) out =
    drop-drop j k t ∙ drop-drop (k + j) 19 out ∙ ap (λ m. drop m out) (omega arith) in
    let room2 : j ≤ length (drop k t) = simp length-drop (omega arith) in
    let third : put_mid (19 + n) j ((head ++ enc) ++ drop k t) sum ≡ (head ++ enc) ++ (sum ++ drop j (drop k t)) = over (head ++ enc) (drop k t) sum (19 + n) j both room2 in
    let end : (head ++ enc) ++ (sum ++ drop j (drop k t)) ≡ ((head ++ enc) ++ sum) ++ drop (35 + n) out =
    ap (λ x. (head ++ enc) ++ (sum ++ x)) rest ∙ sym (append_assoc (head ++ enc) sum (drop (35 + n) out)) in
    let total : sum ≡ sum_of key (head ++ enc) = is_sum ∙ ap (sum_of key) is in
    ap (λ x. put_mid (19 + n) j x sum) whole ∙ third ∙ end
    ∙ ap (λ s. ((head ++ enc) ++ s) ++ drop (35 + n) out) total
    ∙ ap (λ x. ((head ++ x) ++ sum_of key (head ++ x)) ++ drop (35 + n) out) turned

-- memory that is as long as the word holds the word and nothing else
pub nothing-behind : (s out : List ℕ) (n : ℕ) → length out ≤ n → s ++ drop n out ≡ s
nothing-behind s out n long = ap (λ x. s ++ x) (drop_all n out long) ∙ append-nil s

-- nothing inside is turned into nothing, under any key
pub sealed_empty : (key turning other head nonce : List ℕ) → sealed_by key turning head nonce [] ≡ sealed_by key other head nonce []
unfolding sealed_by encrypt
sealed_empty key turning other head nonce = refl
