-- Bytes as hex digits, and what hex digits stand for. Assumes nothing.
use Rattle.std.specs.Prelude.{◌≡◌, ℕ, ◌+◌, ◌-◌, ◌*◌, ◌/◌, ◌%◌, ◌<◌, Bool, cond, ◌&&◌, ◌⊎◌, List, [], ◌∷◌, ◌++◌, Some, None, Ok, Err, vec_items, Option, Result, Vec, nat_le, nat_lt, length, drop, slice_index, slice_index_or}
use Rattle.std.specs.declared.alloc.Global.{Global}
use Rattle.std.specs.List.{AllByRecursion}
use Rattle.std.specs.Borrow.{Bor}
use Rattle.lines.specs.declared.faults.LineFault.{LineFault}
use Rattle.lines.specs.declared.faults.NoHex.{NoHex}
use Rattle.lines.specs.declared.faults.LineFault.TheVariants.{NotHex, OddHex, NoMemory}

-- whether a byte lies between two others, both included
abbrev pub between : ℕ → ℕ → ℕ → Bool
between low high b = nat_le low b && nat_le b high

-- the value of a hex digit, 0 to 9, A to F or a to f
abbrev pub digit_value : ℕ → Option ℕ
digit_value b =
    cond (between 48 57 b) (Some (b - 48)) (cond (between 65 70 b) (Some (b - 65 + 10)) (cond (between 97 102 b) (Some (b - 97 + 10)) None))

-- the lower-case digit of a value below 16
abbrev pub digit_byte : ℕ → ℕ
digit_byte v = cond (nat_lt v 10) (48 + v) (97 + (v - 10))

-- bytes as hex digits, the high half of each first
abbrev pub encoded : List ℕ → List ℕ
encoded [] = []
encoded (b ∷ bs) = digit_byte (b / 16) ∷ digit_byte (b % 16) ∷ encoded bs

-- what was read with these bytes before it
abbrev pub onto : List ℕ → Result (List ℕ) LineFault → Result (List ℕ) LineFault
onto bs (Ok more) = Ok (bs ++ more)
onto bs (Err e) = Err e

-- the byte of two digits before what the rest stands for, or the fault of the first that is none
abbrev pub with_pair : ℕ → Option ℕ → Option ℕ → Result (List ℕ) LineFault → Result (List ℕ) LineFault
with_pair column None low more = Err (NotHex column)
with_pair column (Some high) None more = Err (NotHex (column + 1))
with_pair column (Some high) (Some low) more = onto ((high * 16 + low) ∷ []) more

-- the fault of a last character that has no second one
abbrev pub single : ℕ → Option ℕ → Result (List ℕ) LineFault
single column None = Err (NotHex column)
single column (Some high) = Err OddHex

-- the bytes that hex digits stand for, or the first fault, of text that begins at a column
abbrev pub decoded : ℕ → List ℕ → Result (List ℕ) LineFault
decoded column [] = Ok []
decoded column (x ∷ []) = single column (digit_value x)
decoded column (x ∷ y ∷ rest) = with_pair column (digit_value x) (digit_value y) (decoded (column + 2) rest)

-- what stands on a line from a place on is cut into pairs, and a last one that has no second
pub record IsCut (line : List ℕ) (start : ℕ) (pairs : List (List ℕ)) (single : List ℕ) : Type 0 where
  pub inside : (i : ℕ) → i < length pairs → start + 2 * i + 1 < length line
  pub first : (i : ℕ) → i < length pairs → slice_index (slice_index_or pairs i []) 0 ≡ slice_index line (start + 2 * i)
  pub second : (i : ℕ) → i < length pairs → slice_index (slice_index_or pairs i []) 1 ≡ slice_index line (start + 2 * i + 1)
  pub rest : drop (start + 2 * length pairs) line ≡ single
  pub short : length single < 2

-- an answer is what the text stands for, unless there was no memory
abbrev pub Decodes : Result (List ℕ) LineFault → Result (Vec ℕ Global) LineFault → Type 0
Decodes meant (Ok v) = meant ≡ Ok (vec_items v)
Decodes meant (Err e) = (e ≡ NoMemory) ⊎ (meant ≡ Err e)

-- the characters of a word; none where there is none
abbrev pub text_of : Option (Bor (List ℕ)) → List ℕ
text_of None = []
text_of (Some word) = word.now

-- an answer is what the word stands for, unless there was no memory
abbrev pub DecodesWord : Result (List ℕ) LineFault → Result (Vec ℕ Global) NoHex → Type 0
DecodesWord meant (Ok v) = meant ≡ Ok (vec_items v)
DecodesWord meant (Err e) = (e.0 ≡ NoMemory) ⊎ (meant ≡ Err e.0)

-- decoding what was encoded gives it back
abbrev pub GivesBack : Type 0
GivesBack = (column : ℕ) (bs : List ℕ) → AllByRecursion (λ b. b < 256) bs → decoded column (encoded bs) ≡ Ok bs
