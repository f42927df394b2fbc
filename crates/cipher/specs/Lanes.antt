-- Four ChaCha20 states in four rows of sixteen lanes, and what the lanes do to them.
-- Assumes nothing.
use Rattle.std.specs.Prelude.{ℕ, zero, suc, ◌+◌, List, [], ◌∷◌, ◌++◌, map, bit_xor, slice_index, slice_index_or, slice_set}
use Rattle.std.specs.Simd.Lanes.{zip2, pick_l}
use Rattle.cipher.specs.declared.rows.Rows.{Rows}
use Rattle.cipher.specs.ChaCha20.{add32, turn_left, block_of}

-- the j-th lanes of the rows: a column of one of the states
unfoldable pub column : ℕ → Rows → List ℕ
column j r = slice_index r.a j ∷ slice_index r.b j ∷ slice_index r.c j ∷ slice_index r.d j ∷ []

-- the state that has these columns
unfoldable pub of_columns : List ℕ → List ℕ → List ℕ → List ℕ → List ℕ
of_columns p q r s =
    slice_index p 0 ∷ slice_index q 0 ∷ slice_index r 0 ∷ slice_index s 0
    ∷ slice_index p 1 ∷ slice_index q 1 ∷ slice_index r 1 ∷ slice_index s 1
    ∷ slice_index p 2 ∷ slice_index q 2 ∷ slice_index r 2 ∷ slice_index s 2
    ∷ slice_index p 3 ∷ slice_index q 3 ∷ slice_index r 3 ∷ slice_index s 3 ∷ []

-- the k-th of the four states
unfoldable pub state_of : ℕ → Rows → List ℕ
state_of k r = of_columns (column k r) (column (4 + k) r) (column (8 + k) r) (column (12 + k) r)

-- four words of a state from i on, each four times
unfoldable pub row_at : ℕ → List ℕ → List ℕ
row_at i s =
    let w0 = slice_index_or s i 0 in
    let w1 = slice_index_or s (i + 1) 0 in
    let w2 = slice_index_or s (i + 2) 0 in
    let w3 = slice_index_or s (i + 3) 0 in
    w0 ∷ w0 ∷ w0 ∷ w0 ∷ w1 ∷ w1 ∷ w1 ∷ w1 ∷ w2 ∷ w2 ∷ w2 ∷ w2 ∷ w3 ∷ w3 ∷ w3 ∷ w3 ∷ []

-- the rows of four states that are s with the block counters n, n + 1, n + 2 and n + 3
unfoldable pub start_rows : List ℕ → ℕ → Rows
start_rows s n =
    let w1 = slice_index_or s 13 0 in
    let w2 = slice_index_or s 14 0 in
    let w3 = slice_index_or s 15 0 in
    record {
      a = row_at 0 s;
      b = row_at 4 s;
      c = row_at 8 s;
      d =
          add32 n 0 ∷ add32 n 1 ∷ add32 n 2 ∷ add32 n 3 ∷ w1 ∷ w1 ∷ w1 ∷ w1 ∷ w2 ∷ w2 ∷ w2 ∷ w2 ∷ w3 ∷ w3 ∷ w3 ∷ w3 ∷ [];
    }

-- `a += b` on rows
unfoldable pub line_sum : List ℕ → List ℕ → List ℕ
line_sum a b = zip2 add32 a b

-- `d ^= a; d <<<= n` on rows
unfoldable pub line_turn : ℕ → List ℕ → List ℕ → List ℕ
line_turn n d a = map (turn_left n) (zip2 bit_xor d a)

-- the four lines of the quarter round on rows, which are the quarter rounds of all columns
unfoldable pub quarter_rows : Rows → Rows
quarter_rows r =
    let a1 = line_sum r.a r.b in
    let d1 = line_turn 16 r.d a1 in
    let c1 = line_sum r.c d1 in
    let b1 = line_turn 12 r.b c1 in
    let a2 = line_sum a1 b1 in
    let d2 = line_turn 8 d1 a2 in
    let c2 = line_sum c1 d2 in
    let b2 = line_turn 7 b1 c2 in
    record { a = a2; b = b2; c = c2; d = d2 }

-- the lanes of a row at these places; a swizzle reads a vector that is joined to itself
unfoldable pub lanes_at : List ℕ → List ℕ → List ℕ
lanes_at x places = pick_l 0 (x ++ x) places

-- the lanes of a row that is turned left by one word, by two and by three
abbrev pub by_one : List ℕ
by_one = 4 ∷ 5 ∷ 6 ∷ 7 ∷ 8 ∷ 9 ∷ 10 ∷ 11 ∷ 12 ∷ 13 ∷ 14 ∷ 15 ∷ 0 ∷ 1 ∷ 2 ∷ 3 ∷ []

abbrev pub by_two : List ℕ
by_two = 8 ∷ 9 ∷ 10 ∷ 11 ∷ 12 ∷ 13 ∷ 14 ∷ 15 ∷ 0 ∷ 1 ∷ 2 ∷ 3 ∷ 4 ∷ 5 ∷ 6 ∷ 7 ∷ []

abbrev pub by_three : List ℕ
by_three = 12 ∷ 13 ∷ 14 ∷ 15 ∷ 0 ∷ 1 ∷ 2 ∷ 3 ∷ 4 ∷ 5 ∷ 6 ∷ 7 ∷ 8 ∷ 9 ∷ 10 ∷ 11 ∷ []

-- the diagonals become columns: row b turned by one word, c by two and d by three
unfoldable pub slant_rows : Rows → Rows
slant_rows r = record { a = r.a; b = lanes_at r.b by_one; c = lanes_at r.c by_two; d = lanes_at r.d by_three }

-- the columns become diagonals again
unfoldable pub unslant_rows : Rows → Rows
unslant_rows r = record { a = r.a; b = lanes_at r.b by_three; c = lanes_at r.c by_two; d = lanes_at r.d by_one }

-- inner_block on rows, n times
unfoldable pub inner_rows : ℕ → Rows → Rows
inner_rows zero r = r
inner_rows (suc n) r = unslant_rows (quarter_rows (slant_rows (quarter_rows (inner_rows n r))))

-- the sums of states, row by row
unfoldable pub sum_rows : Rows → Rows → Rows
sum_rows r q = record { a = line_sum r.a q.a; b = line_sum r.b q.b; c = line_sum r.c q.c; d = line_sum r.d q.d }

-- a state with its block counter k further on, and the block of that state
abbrev pub counted : List ℕ → ℕ → List ℕ
counted s k = slice_set s 12 (add32 (slice_index s 12) k)

abbrev pub block_after : List ℕ → ℕ → List ℕ
block_after s k = block_of (counted s k)
