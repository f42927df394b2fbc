-- The words of a line: what stands between blanks. Assumes nothing.
use Rattle.std.specs.Prelude.{ℕ, Bool, true, false, List, [], ◌∷◌, filter}
use Rattle.std.specs.Char.{is_ascii_whitespace}
use Rattle.std.specs.List.{slice_split}

-- whether what stands between blanks is a word: it isn't empty
abbrev pub is_word : List ℕ → Bool
is_word [] = false
is_word (b ∷ bs) = true

-- the words of a line
unfoldable pub words_of : List ℕ → List (List ℕ)
words_of line = filter is_word (slice_split is_ascii_whitespace line)
