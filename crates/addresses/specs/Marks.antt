-- A text cut at its first mark. Assumes nothing.
use Rattle.std.specs.Prelude.{ℕ, Bool, cond, List, [], ◌∷◌, Some, None, Option, ◌==◌}
use Rattle.std.specs.Char.{is_ascii_whitespace}
use Rattle.addresses.specs.declared.marks.Mark.{Mark}
use Rattle.addresses.specs.declared.marks.Mark.TheVariants.{Dot, Slash, Blank, LineFeed}

-- whether a byte is the dot between the bytes of an address
abbrev pub dot : ℕ → Bool
dot b = b == 46

-- whether a byte is the slash before the length of a prefix
abbrev pub slash : ℕ → Bool
slash b = b == 47

-- whether a byte is a mark
abbrev pub marks : Mark → ℕ → Bool
marks Dot b = dot b
marks Slash b = slash b
marks Blank b = is_ascii_whitespace b
marks LineFeed b = b == 10

-- what stands before the first byte that is a mark; all where there is none
abbrev pub front : (ℕ → Bool) → List ℕ → List ℕ
front mark [] = []
front mark (b ∷ bs) = cond (mark b) [] (b ∷ front mark bs)

-- what stands behind the first byte that is a mark
abbrev pub behind : (ℕ → Bool) → List ℕ → Option (List ℕ)
behind mark [] = None
behind mark (b ∷ bs) = cond (mark b) (Some bs) (behind mark bs)
