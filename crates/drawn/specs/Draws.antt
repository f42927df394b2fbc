-- What a word takes from a supply of drawn bytes: eight for its tag, and then sixteen. Eight bytes that are all 0 where a tag is wanted are passed over.
-- Assumes nothing.
use Rattle.std.specs.Prelude.{◌≡◌, ℕ, ◌+◌, ◌*◌, ◌/◌, ◌<◌, ◌≤◌, Bool, cond, List, [], ◌∷◌, ◌++◌, length, take, drop, replicate, Some, None, Option, ◌==◌, nat_le, slice_index}
use Rattle.std.specs.List.{take_while}
use Rattle.drawn.specs.declared.state.Draw.{Draw}

-- how many zeros stand at the front
abbrev pub zeros : List ℕ → ℕ
zeros bytes = length (take_while (λ b. b == 0) bytes)

-- How many bytes are passed over: all the eights at the front that are 0.
abbrev pub passed_over : List ℕ → ℕ
passed_over bytes = zeros bytes / 8 * 8

-- The tag that stands at the front, high byte first.
abbrev pub tag_at : List ℕ → ℕ
tag_at bytes = slice_index bytes 0 * 72057594037927936 + slice_index bytes 1 * 281474976710656 + slice_index bytes 2 * 1099511627776 + slice_index bytes 3 * 4294967296 + slice_index bytes 4 * 16777216 + slice_index bytes 5 * 65536 + slice_index bytes 6 * 256 + slice_index bytes 7

-- What stands at the front: a tag, and sixteen bytes.
abbrev pub draw_at : List ℕ → Draw
draw_at bytes = record { tag = tag_at bytes; bytes = take 16 (drop 8 bytes) }

-- the supply from its first tag on
abbrev pub from_tag : List ℕ → List ℕ
from_tag bytes = drop (passed_over bytes) bytes

-- there is enough for one word
abbrev pub enough : List ℕ → Bool
enough bytes = nat_le 24 (length (from_tag bytes))

-- WHAT IS DRAWN for one word, if there is enough.
unfoldable pub draw_of : List ℕ → Option Draw
draw_of bytes = cond (enough bytes) (Some (draw_at (from_tag bytes))) None

-- how many bytes that takes; none, where there is not enough
unfoldable pub spent_of : List ℕ → ℕ
spent_of bytes = cond (enough bytes) (passed_over bytes + 24) 0

-- what is found at the front: a draw with how many bytes it takes, or too little for one
abbrev pub IsFirstDraw : List ℕ → Option (Draw × ℕ) → Type 0
IsFirstDraw bytes None = (draw_of bytes ≡ None) × (spent_of bytes ≡ 0)
IsFirstDraw bytes (Some (d, n)) = (draw_of bytes ≡ Some d) × (spent_of bytes ≡ n) × (n ≤ length bytes)

-- WHAT IS LEFT after it; where there is not enough, all.
abbrev pub left_of : List ℕ → List ℕ
left_of bytes = drop (spent_of bytes) bytes

-- What is drawn as a tag is one: it is not 0. By three supplies: of nine zeros in front eight are passed over, and the ninth is the tag's; zeros alone are no tag,
-- however many; and one byte too few is too few, so that nothing is taken.
pub record TagsAreTags : Type 0 where
  pub not_zero : (bytes : List ℕ) (d : Draw) → draw_of bytes ≡ Some d → 0 < d.tag
  pub passes : draw_of (replicate 9 0 ++ replicate 24 7) ≡ Some (record { tag = 1978051601041159; bytes = replicate 16 7 })
  pub takes : left_of (replicate 9 0 ++ replicate 24 7) ≡ 7 ∷ []
  pub none : draw_of (replicate 40 0) ≡ None
  pub short : (draw_of (replicate 9 0 ++ replicate 22 7) ≡ None) × (left_of (replicate 9 0 ++ replicate 22 7) ≡ replicate 9 0 ++ replicate 22 7)
