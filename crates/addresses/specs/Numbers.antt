-- Which texts are which number. Assumes nothing.
use Rattle.std.specs.Prelude.{ℕ, ◌+◌, ◌-◌, ◌*◌, Bool, cond, ◌&&◌, ◌||◌, List, [], ◌∷◌, length, Some, None, Option, ◌==◌, nat_le, nat_lt, slice_index}
use Rattle.std.specs.Char.{is_ascii_digit}

-- a step after another: not done where that one gave nothing
-- (std's option_and_then takes the function first: steps would read from the last to the first)
abbrev pub and_then : {A B : Type 0} → Option A → (A → Option B) → Option B
and_then None next = None
and_then (Some x) next = next x

-- a number with one digit more, where that byte is one and the number doesn't pass the limit
abbrev pub digit_added : ℕ → ℕ → ℕ → Option ℕ
digit_added limit n c = cond (is_ascii_digit c && nat_le (n * 10 + (c - 48)) limit) (Some (n * 10 + (c - 48))) None

-- digits after a number, as long as the number doesn't pass the limit
abbrev pub digits_from : ℕ → ℕ → List ℕ → Option ℕ
digits_from limit n [] = Some n
digits_from limit n (c ∷ cs) = and_then (digit_added limit n c) (λ m. digits_from limit m cs)

-- whether a text is empty, or has a zero in front of something else
abbrev pub unfit : List ℕ → Bool
unfit t = length t == 0 || (slice_index t 0 == 48 && nat_lt 1 (length t))

-- the number that a text is, up to a limit
unfoldable pub number_read : ℕ → List ℕ → Option ℕ
number_read limit t = cond (unfit t) None (digits_from limit 0 t)
