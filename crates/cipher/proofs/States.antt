-- What the lanes do to the rows of four states is what the definitions do to each state.
use Rattle.std.proofs.Common.{◌≡◌, ℕ, zero, suc, ◌+◌, ◌*◌, ◌/◌, ◌%◌, ◌<◌, T, List, [], ◌∷◌, ◌++◌, length, get_or, set, sym, refl, ap, ◌∙◌, arith, length-set, w32, Fits}
use lib.Bits.{bit_xor}
use lib.Lanes.{zip2, pick_l, all_below, Each1, number_l, digits_l}
use lib.ListN.{length-map}
use Rattle.std.proofs.lemmas.Simd.{length-zip2, get_or-zip2, pick_l_left}
use Rattle.cipher.specs.declared.rows.Rows.{Rows}
use Rattle.cipher.specs.ChaCha20.{add32, turn_left, add_word, turn_word, line, quarter_round, column_round, diagonal_round, inner_block, inner_blocks, word_bytes, serialized, block_of}
use Rattle.cipher.specs.Rounds.{quarter, quarter_at}
use Rattle.cipher.specs.Lanes.{column, of_columns, state_of, row_at, start_rows, line_sum, line_turn, quarter_rows, slant_rows, unslant_rows, lanes_at, by_one, by_two, by_three, inner_rows, sum_rows}

-- rows of n lanes
pub record Wide (n : ℕ) (r : Rows) : Type 0 where
  pub a : length r.a ≡ n
  pub b : length r.b ≡ n
  pub c : length r.c ≡ n
  pub d : length r.d ≡ n

-- a list of one element more
first : (n : ℕ) (P : List ℕ → Type 0) → ((x : ℕ) (xs : List ℕ) → length xs ≡ n → P (x ∷ xs)) → (s : List ℕ) → length s ≡ suc n → P s
first n P y [] h = absurd (omega arith)
first n P y (x ∷ xs) h = y x xs (omega arith)

none : (P : List ℕ → Type 0) → P [] → (s : List ℕ) → length s ≡ 0 → P s
none P y [] h = y
none P y (x ∷ xs) h = absurd (omega arith)

-- a list of sixteen words, written out
sixteen : (P : List ℕ → Type 0)
    → ((a b c d e f g h i j k l m n o p : ℕ) → P (a ∷ b ∷ c ∷ d ∷ e ∷ f ∷ g ∷ h ∷ i ∷ j ∷ k ∷ l ∷ m ∷ n ∷ o ∷ p ∷ []))
    → (s : List ℕ) → length s ≡ 16 → P s
sixteen P y =
    first 15 (λ s. P (s)) (λ a.
    first 14 (λ s. P (a ∷ s)) (λ b.
    first 13 (λ s. P (a ∷ b ∷ s)) (λ c.
    first 12 (λ s. P (a ∷ b ∷ c ∷ s)) (λ d.
    first 11 (λ s. P (a ∷ b ∷ c ∷ d ∷ s)) (λ e.
    first 10 (λ s. P (a ∷ b ∷ c ∷ d ∷ e ∷ s)) (λ f.
    first 9 (λ s. P (a ∷ b ∷ c ∷ d ∷ e ∷ f ∷ s)) (λ g.
    first 8 (λ s. P (a ∷ b ∷ c ∷ d ∷ e ∷ f ∷ g ∷ s)) (λ h.
    first 7 (λ s. P (a ∷ b ∷ c ∷ d ∷ e ∷ f ∷ g ∷ h ∷ s)) (λ i.
    first 6 (λ s. P (a ∷ b ∷ c ∷ d ∷ e ∷ f ∷ g ∷ h ∷ i ∷ s)) (λ j.
    first 5 (λ s. P (a ∷ b ∷ c ∷ d ∷ e ∷ f ∷ g ∷ h ∷ i ∷ j ∷ s)) (λ k.
    first 4 (λ s. P (a ∷ b ∷ c ∷ d ∷ e ∷ f ∷ g ∷ h ∷ i ∷ j ∷ k ∷ s)) (λ l.
    first 3 (λ s. P (a ∷ b ∷ c ∷ d ∷ e ∷ f ∷ g ∷ h ∷ i ∷ j ∷ k ∷ l ∷ s)) (λ m.
    first 2 (λ s. P (a ∷ b ∷ c ∷ d ∷ e ∷ f ∷ g ∷ h ∷ i ∷ j ∷ k ∷ l ∷ m ∷ s)) (λ n.
    first 1 (λ s. P (a ∷ b ∷ c ∷ d ∷ e ∷ f ∷ g ∷ h ∷ i ∷ j ∷ k ∷ l ∷ m ∷ n ∷ s)) (λ o.
    first 0 (λ s. P (a ∷ b ∷ c ∷ d ∷ e ∷ f ∷ g ∷ h ∷ i ∷ j ∷ k ∷ l ∷ m ∷ n ∷ o ∷ s)) (λ p.
    none (λ s. P (a ∷ b ∷ c ∷ d ∷ e ∷ f ∷ g ∷ h ∷ i ∷ j ∷ k ∷ l ∷ m ∷ n ∷ o ∷ p ∷ s)) (y a b c d e f g h i j k l m n o p)))))))))))))))))

written : (s : List ℕ) → length s ≡ 16
    → s
    ≡ get_or s 0 0 ∷ get_or s 1 0 ∷ get_or s 2 0 ∷ get_or s 3 0 ∷ get_or s 4 0 ∷ get_or s 5 0 ∷ get_or s 6 0 ∷ get_or s 7 0
    ∷ get_or s 8 0 ∷ get_or s 9 0 ∷ get_or s 10 0 ∷ get_or s 11 0 ∷ get_or s 12 0 ∷ get_or s 13 0 ∷ get_or s 14 0 ∷ get_or s 15 0 ∷ []
written =
    sixteen (λ s.
    s
    ≡ get_or s 0 0 ∷ get_or s 1 0 ∷ get_or s 2 0 ∷ get_or s 3 0 ∷ get_or s 4 0 ∷ get_or s 5 0 ∷ get_or s 6 0 ∷ get_or s 7 0
    ∷ get_or s 8 0 ∷ get_or s 9 0 ∷ get_or s 10 0 ∷ get_or s 11 0 ∷ get_or s 12 0 ∷ get_or s 13 0 ∷ get_or s 14 0 ∷ get_or s 15 0 ∷ [])
    (λ a b c d e f g h i j k l m n o p. refl)

-- a column of the rows after the quarter round on rows is the quarter round of that column
quarter-at : (n : ℕ) (a b c d : List ℕ) (j : ℕ) → length a ≡ n → length b ≡ n → length c ≡ n → length d ≡ n → j < n
    → column j (quarter_rows (record { a = a; b = b; c = c; d = d })) ≡ quarter_round 0 1 2 3 (column j (record { a = a; b = b; c = c; d = d }))
unfolding column quarter_rows line_sum line_turn quarter_round line add_word turn_word
quarter-at n [] b c d j ha hb hc hd h = absurd (omega arith)
quarter-at n (x ∷ a) [] c d j ha hb hc hd h = absurd (omega arith)
quarter-at n (x ∷ a) (y ∷ b) [] d j ha hb hc hd h = absurd (omega arith)
quarter-at n (x ∷ a) (y ∷ b) (z ∷ c) [] j ha hb hc hd h = absurd (omega arith)
quarter-at n (x ∷ a) (y ∷ b) (z ∷ c) (w ∷ d) zero ha hb hc hd h = refl
quarter-at zero (x ∷ a) (y ∷ b) (z ∷ c) (w ∷ d) (suc j) ha hb hc hd h = absurd (omega arith)
quarter-at (suc n) (x ∷ a) (y ∷ b) (z ∷ c) (w ∷ d) (suc j) ha hb hc hd h =
    quarter-at n a b c d j (omega arith) (omega arith) (omega arith) (omega arith) (omega arith)

-- the quarter rounds of the columns are the column round
columns : (a b c d e f g h i j k l m n o p : ℕ)
    → of_columns (quarter_round 0 1 2 3 (a ∷ e ∷ i ∷ m ∷ [])) (quarter_round 0 1 2 3 (b ∷ f ∷ j ∷ n ∷ []))
    (quarter_round 0 1 2 3 (c ∷ g ∷ k ∷ o ∷ [])) (quarter_round 0 1 2 3 (d ∷ h ∷ l ∷ p ∷ []))
    ≡ column_round (a ∷ b ∷ c ∷ d ∷ e ∷ f ∷ g ∷ h ∷ i ∷ j ∷ k ∷ l ∷ m ∷ n ∷ o ∷ p ∷ [])
unfolding of_columns column_round quarter_round line add_word turn_word
columns a b c d e f g h i j k l m n o p = refl

-- the quarter rounds, each on the words at four places, are a round
pub column_quarters : (s : List ℕ) → length s ≡ 16
    → quarter_at 3 7 11 15 (quarter_at 2 6 10 14 (quarter_at 1 5 9 13 (quarter_at 0 4 8 12 s))) ≡ column_round s
unfolding column_round quarter_round line add_word turn_word quarter quarter_at
column_quarters =
    sixteen (λ s. quarter_at 3 7 11 15 (quarter_at 2 6 10 14 (quarter_at 1 5 9 13 (quarter_at 0 4 8 12 s))) ≡ column_round s)
    (λ a b c d e f g h i j k l m n o p. refl)

pub diagonal_quarters : (s : List ℕ) → length s ≡ 16
    → quarter_at 3 4 9 14 (quarter_at 2 7 8 13 (quarter_at 1 6 11 12 (quarter_at 0 5 10 15 s))) ≡ diagonal_round s
unfolding diagonal_round quarter_round line add_word turn_word quarter quarter_at
diagonal_quarters =
    sixteen (λ s. quarter_at 3 4 9 14 (quarter_at 2 7 8 13 (quarter_at 1 6 11 12 (quarter_at 0 5 10 15 s))) ≡ diagonal_round s)
    (λ a b c d e f g h i j k l m n o p. refl)

column-state : (k : ℕ) (r : Rows) → Wide 16 r → k < 4 → state_of k (quarter_rows r) ≡ column_round (state_of k r)
unfolding state_of of_columns column
column-state k r w h =
    let at : (j : ℕ) → j < 16 → column j (quarter_rows r) ≡ quarter_round 0 1 2 3 (column j r) =
    λ j lt. quarter-at 16 r.a r.b r.c r.d j w.a w.b w.c w.d lt in
    let e0 = at k (omega arith) in
    let e1 = at (4 + k) (omega arith) in
    let e2 = at (8 + k) (omega arith) in
    let e3 = at (12 + k) (omega arith) in
    (λ i. of_columns (e0 i) (e1 i) (e2 i) (e3 i)) ∙ columns _ _ _ _ _ _ _ _ _ _ _ _ _ _ _ _

-- a state whose diagonals are columns, and one whose columns are diagonals again
abbrev slanted : List ℕ → List ℕ
slanted s = pick_l 0 s (0 ∷ 1 ∷ 2 ∷ 3 ∷ 5 ∷ 6 ∷ 7 ∷ 4 ∷ 10 ∷ 11 ∷ 8 ∷ 9 ∷ 15 ∷ 12 ∷ 13 ∷ 14 ∷ [])

abbrev unslanted : List ℕ → List ℕ
unslanted s = pick_l 0 s (0 ∷ 1 ∷ 2 ∷ 3 ∷ 7 ∷ 4 ∷ 5 ∷ 6 ∷ 10 ∷ 11 ∷ 8 ∷ 9 ∷ 13 ∷ 14 ∷ 15 ∷ 12 ∷ [])

diagonals : (a b c d e f g h i j k l m n o p : ℕ)
    → unslanted (column_round (slanted (a ∷ b ∷ c ∷ d ∷ e ∷ f ∷ g ∷ h ∷ i ∷ j ∷ k ∷ l ∷ m ∷ n ∷ o ∷ p ∷ [])))
    ≡ diagonal_round (a ∷ b ∷ c ∷ d ∷ e ∷ f ∷ g ∷ h ∷ i ∷ j ∷ k ∷ l ∷ m ∷ n ∷ o ∷ p ∷ [])
unfolding column_round diagonal_round quarter_round line add_word turn_word
diagonals a b c d e f g h i j k l m n o p = refl

diagonal_words : (k : ℕ) (r : Rows) → unslanted (column_round (slanted (state_of k r))) ≡ diagonal_round (state_of k r)
unfolding state_of of_columns
diagonal_words k r = diagonals _ _ _ _ _ _ _ _ _ _ _ _ _ _ _ _

-- a fact of each of the four states
each_of_four : (P : ℕ → Type 0) → P 0 → P 1 → P 2 → P 3 → (k : ℕ) → k < 4 → P k
each_of_four P p q r s zero h = p
each_of_four P p q r s (suc zero) h = q
each_of_four P p q r s (suc (suc zero)) h = r
each_of_four P p q r s (suc (suc (suc zero))) h = s
each_of_four P p q r s (suc (suc (suc (suc k)))) h = absurd (omega arith)

lanes_at_lem : (x places : List ℕ) → length x ≡ 16 → T (all_below 16 places) → lanes_at x places ≡ pick_l 0 x places
unfolding lanes_at
lanes_at_lem x places e h = pick_l_left 0 x x 16 places e h

slant-states : (r : Rows) → Wide 16 r → (k : ℕ) → k < 4 → state_of k (slant_rows r) ≡ slanted (state_of k r)
unfolding slant_rows state_of of_columns column
slant-states r w =
    let picked : slant_rows r ≡ record { a = r.a; b = pick_l 0 r.b by_one; c = pick_l 0 r.c by_two; d = pick_l 0 r.d by_three } =
    λ i. record { a = r.a; b = lanes_at_lem r.b by_one w.b tt i; c = lanes_at_lem r.c by_two w.c tt i; d = lanes_at_lem r.d by_three w.d tt i } in
    each_of_four (λ k. state_of k (slant_rows r) ≡ slanted (state_of k r)) (ap (state_of 0) picked) (ap (state_of 1) picked) (ap (state_of 2) picked) (ap (state_of 3) picked)

unslant-states : (r : Rows) → Wide 16 r → (k : ℕ) → k < 4 → state_of k (unslant_rows r) ≡ unslanted (state_of k r)
unfolding unslant_rows state_of of_columns column
unslant-states r w =
    let picked : unslant_rows r ≡ record { a = r.a; b = pick_l 0 r.b by_three; c = pick_l 0 r.c by_two; d = pick_l 0 r.d by_one } =
    λ i. record { a = r.a; b = lanes_at_lem r.b by_three w.b tt i; c = lanes_at_lem r.c by_two w.c tt i; d = lanes_at_lem r.d by_one w.d tt i } in
    each_of_four (λ k. state_of k (unslant_rows r) ≡ unslanted (state_of k r)) (ap (state_of 0) picked) (ap (state_of 1) picked) (ap (state_of 2) picked) (ap (state_of 3) picked)

length_sum : (n : ℕ) (a b : List ℕ) → length a ≡ n → length b ≡ n → length (line_sum a b) ≡ n
unfolding line_sum
length_sum n a b ha hb = length-zip2 add32 a b (ha ∙ sym hb) ∙ ha

length-turn : (n m : ℕ) (d a : List ℕ) → length d ≡ m → length a ≡ m → length (line_turn n d a) ≡ m
unfolding line_turn
length-turn n m d a hd ha = length-map (zip2 bit_xor d a) (turn_left n) ∙ length-zip2 bit_xor d a (hd ∙ sym ha) ∙ hd

quarter_wide : (n : ℕ) (r : Rows) → Wide n r → Wide n (quarter_rows r)
unfolding quarter_rows
quarter_wide n r w =
    let a1 = length_sum n _ _ w.a w.b in
    let d1 = length-turn 16 n _ _ w.d a1 in
    let c1 = length_sum n _ _ w.c d1 in
    let b1 = length-turn 12 n _ _ w.b c1 in
    let a2 = length_sum n _ _ a1 b1 in
    let d2 = length-turn 8 n _ _ d1 a2 in
    let c2 = length_sum n _ _ c1 d2 in
    record { a = a2; b = length-turn 7 n _ _ b1 c2; c = c2; d = d2 }

slant_wide : (r : Rows) → Wide 16 r → Wide 16 (slant_rows r)
unfolding slant_rows lanes_at
slant_wide r w = record { a = w.a; b = refl; c = refl; d = refl }

unslant_wide : (r : Rows) → Wide 16 r → Wide 16 (unslant_rows r)
unfolding unslant_rows lanes_at
unslant_wide r w = record { a = w.a; b = refl; c = refl; d = refl }

inner_wide : (n : ℕ) (r : Rows) → Wide 16 r → Wide 16 (inner_rows n r)
unfolding inner_rows
inner_wide zero r w = w
inner_wide (suc n) r w =
    unslant_wide _ (quarter_wide 16 _ (slant_wide _ (quarter_wide 16 _ (inner_wide n r w))))

diagonal_state : (k : ℕ) (r : Rows) → Wide 16 r → k < 4 → state_of k (unslant_rows (quarter_rows (slant_rows r))) ≡ diagonal_round (state_of k r)
diagonal_state k r w h =
    let s = slant_wide r w in
    unslant-states (quarter_rows (slant_rows r)) (quarter_wide 16 (slant_rows r) s) k h
    ∙ ap unslanted (column-state k (slant_rows r) s h ∙ ap column_round (slant-states r w k h))
    ∙ diagonal_words k r

-- the rounds on rows are the rounds of each state
inner-state : (k n : ℕ) (r : Rows) → Wide 16 r → k < 4 → state_of k (inner_rows n r) ≡ inner_blocks n (state_of k r)
unfolding inner_rows inner_blocks inner_block
inner-state k zero r w h = refl
inner-state k (suc n) r w h =
    let q = inner_rows n r in
    let wq : Wide 16 q = inner_wide n r w in
    diagonal_state k (quarter_rows q) (quarter_wide 16 q wq) h
    ∙ ap diagonal_round (column-state k q wq h ∙ ap column_round (inner-state k n r w h))

-- the sums of rows are the sums of the states
sum_at : (n : ℕ) (r q : Rows) (j : ℕ) → Wide n r → Wide n q → j < n → column j (sum_rows r q) ≡ zip2 add32 (column j r) (column j q)
unfolding column sum_rows line_sum
sum_at n r q j w v h =
    λ i. get_or-zip2 add32 r.a q.a j 0 0 0 (omega (arith, w.a)) (omega (arith, v.a)) i
    ∷ get_or-zip2 add32 r.b q.b j 0 0 0 (omega (arith, w.b)) (omega (arith, v.b)) i
    ∷ get_or-zip2 add32 r.c q.c j 0 0 0 (omega (arith, w.c)) (omega (arith, v.c)) i
    ∷ get_or-zip2 add32 r.d q.d j 0 0 0 (omega (arith, w.d)) (omega (arith, v.d)) i ∷ []

sum_state : (k : ℕ) (r q : Rows) → Wide 16 r → Wide 16 q → k < 4 → state_of k (sum_rows r q) ≡ zip2 add32 (state_of k r) (state_of k q)
unfolding state_of of_columns column
sum_state k r q w v h =
    let e0 = sum_at 16 r q k w v (omega arith) in
    let e1 = sum_at 16 r q (4 + k) w v (omega arith) in
    let e2 = sum_at 16 r q (8 + k) w v (omega arith) in
    let e3 = sum_at 16 r q (12 + k) w v (omega arith) in
    λ i. of_columns (e0 i) (e1 i) (e2 i) (e3 i)

-- the block of each state, by rows
block-state : (k : ℕ) (r : Rows) → Wide 16 r → k < 4 → serialized (state_of k (sum_rows (inner_rows 10 r) r)) ≡ block_of (state_of k r)
unfolding block_of
block-state k r w h =
    ap serialized (sum_state k (inner_rows 10 r) r (inner_wide 10 r w) w h)
    ∙ ap (λ s. serialized (zip2 add32 s (state_of k r))) (inner-state k 10 r w h)

start_wide : (s : List ℕ) (n : ℕ) → Wide 16 (start_rows s n)
unfolding start_rows row_at
start_wide s n = record { a = refl; b = refl; c = refl; d = refl }

-- a state of sixteen words with another block counter, written out
abbrev counted : List ℕ → ℕ → List ℕ
counted s n =
    get_or s 0 0 ∷ get_or s 1 0 ∷ get_or s 2 0 ∷ get_or s 3 0 ∷ get_or s 4 0 ∷ get_or s 5 0 ∷ get_or s 6 0 ∷ get_or s 7 0
    ∷ get_or s 8 0 ∷ get_or s 9 0 ∷ get_or s 10 0 ∷ get_or s 11 0 ∷ n ∷ get_or s 13 0 ∷ get_or s 14 0 ∷ get_or s 15 0 ∷ []

counted-set : (s : List ℕ) (n : ℕ) → length s ≡ 16 → counted s n ≡ set s 12 n
counted-set s v = sixteen (λ s. counted s v ≡ set s 12 v) (λ a b c d e f g h i j k l m n o p. refl) s

-- the states that the rows start from
start-states : (s : List ℕ) (n : ℕ) → length s ≡ 16 → (k : ℕ) → k < 4 → state_of k (start_rows s n) ≡ set s 12 (add32 n k)
unfolding start_rows row_at state_of of_columns column
start-states s n e =
    each_of_four (λ k. state_of k (start_rows s n) ≡ set s 12 (add32 n k))
    (counted-set s (add32 n 0) e) (counted-set s (add32 n 1) e) (counted-set s (add32 n 2) e) (counted-set s (add32 n 3) e)

-- the block of a state with the block counter n + k
pub block_lanes : (s : List ℕ) (n k : ℕ) → length s ≡ 16 → k < 4
    → serialized (state_of k (sum_rows (inner_rows 10 (start_rows s n)) (start_rows s n))) ≡ block_of (set s 12 (add32 n k))
block_lanes s n k e h = block-state k (start_rows s n) (start_wide s n) h ∙ ap block_of (start-states s n e k h)

length-line : (a b d n : ℕ) (s : List ℕ) → length (line a b d n s) ≡ length s
unfolding line add_word turn_word
length-line a b d n s = simp length-set

length-quarter : (a b c d : ℕ) (s : List ℕ) → length (quarter_round a b c d s) ≡ length s
unfolding quarter_round
length-quarter a b c d s = simp length-line

length-inner : (s : List ℕ) → length (inner_block s) ≡ length s
unfolding inner_block diagonal_round column_round
length-inner s = simp length-quarter

pub length_inners : (n : ℕ) (s : List ℕ) → length (inner_blocks n s) ≡ length s
unfolding inner_blocks
length_inners zero s = refl
length_inners (suc n) s = length-inner (inner_blocks n s) ∙ length_inners n s

-- as many numbers as four for each
abbrev quad : List ℕ → ℕ
quad [] = zero
quad (x ∷ xs) = suc (suc (suc (suc (quad xs))))

-- the bytes of a vector of words
digits_words : (xs : List ℕ) → Each1 (Fits w32) xs → digits_l 256 (quad xs) (number_l 4294967296 xs) ≡ serialized xs
unfolding serialized word_bytes
digits_words [] f = refl
digits_words (x ∷ xs) f =
    let n : ℕ = number_l 4294967296 xs in
    let small : x < 4294967296 = f.0.fits in
    let e0 : (x + 4294967296 * n) % 256 ≡ x % 256 = omega arith in
    let d1 : (x + 4294967296 * n) / 256 ≡ x / 256 + 16777216 * n = omega arith in
    let e1 : (x / 256 + 16777216 * n) % 256 ≡ x / 256 % 256 = omega arith in
    let d2 : (x / 256 + 16777216 * n) / 256 ≡ x / 65536 + 65536 * n = omega arith in
    let e2 : (x / 65536 + 65536 * n) % 256 ≡ x / 65536 % 256 = omega arith in
    let d3 : (x / 65536 + 65536 * n) / 256 ≡ x / 16777216 + 256 * n = omega arith in
    let e3 : (x / 16777216 + 256 * n) % 256 ≡ x / 16777216 % 256 = omega arith in
    let d4 : (x / 16777216 + 256 * n) / 256 ≡ n = omega arith in
    let more : digits_l 256 (quad xs) n ≡ serialized xs = digits_words xs f.1 in
    cc

-- the bytes of sixteen words
pub state-bytes : (xs : List ℕ) → length xs ≡ 16 → Each1 (Fits w32) xs → digits_l 256 64 (number_l 4294967296 xs) ≡ serialized xs
state-bytes xs h f = let all : quad xs ≡ 64 = quad_is xs ∙ ap (λ n. 4 * n) h in ap (λ n. digits_l 256 n (number_l 4294967296 xs)) (sym all) ∙ digits_words xs f
  where
    quad_is : (xs : List ℕ) → quad xs ≡ 4 * length xs
    quad_is [] = refl
    quad_is (x ∷ xs) = let more = quad_is xs in omega arith

-- every fourth of 32 lanes, from the k-th on
abbrev fourths : ℕ → List ℕ → List ℕ
fourths k xs = pick_l 0 xs (k ∷ (4 + k) ∷ (8 + k) ∷ (12 + k) ∷ (16 + k) ∷ (20 + k) ∷ (24 + k) ∷ (28 + k) ∷ [])

-- the states are every fourth lane of the rows
pub states-apart : (r : Rows) → Wide 16 r → (k : ℕ) → k < 4 → fourths k (r.a ++ r.b) ++ fourths k (r.c ++ r.d) ≡ state_of k r
unfolding state_of of_columns column
states-apart r w =
    let a = written r.a w.a in
    let b = written r.b w.b in
    let c = written r.c w.c in
    let d = written r.d w.d in
    each_of_four (λ k. fourths k (r.a ++ r.b) ++ fourths k (r.c ++ r.d) ≡ state_of k r)
    (λ i. fourths 0 (a i ++ b i) ++ fourths 0 (c i ++ d i)) (λ i. fourths 1 (a i ++ b i) ++ fourths 1 (c i ++ d i))
    (λ i. fourths 2 (a i ++ b i) ++ fourths 2 (c i ++ d i)) (λ i. fourths 3 (a i ++ b i) ++ fourths 3 (c i ++ d i))
