-- The edges of a window, as a table: the numbers that came, latest first, a number, and what is said of it. Assumes nothing.
use Rattle.std.specs.Prelude.{◌≡◌, ℕ, ◌+◌, ◌-◌, ◌^◌, List, [], ◌∷◌, slice_set}
use Rattle.gates.specs.Talk.{larger}
use Rattle.window.specs.Heard.{word_bits, span, place, bit_of, empty_window, look_bits, after_bits, verdict_of}
use Rattle.window.specs.declared.state.Window.{Window}
use Rattle.window.specs.declared.state.Verdict.{Verdict}
use Rattle.window.specs.declared.state.Verdict.TheVariants.{Fresh, TooOld, Came}

-- The window after the numbers of a list came, latest first.
unfoldable pub window_of : List ℕ → Window
window_of [] = empty_window
window_of (n ∷ ns) = after_bits (window_of ns) n

-- The highest number of a list, 0 where there is none.
unfoldable pub highest_of : List ℕ → ℕ
highest_of [] = 0
highest_of (n ∷ ns) = larger (highest_of ns) n

-- A row: after these numbers came, the window's bits and the list say this of a number.
unfoldable pub Row : List ℕ → ℕ → Verdict → Type 0
Row ns n v = (look_bits (window_of ns) n ≡ v) × (verdict_of (highest_of ns) ns n ≡ v)

-- The largest number of 64 bits.
abbrev pub largest : ℕ
largest = 2 ^ 64 - 1

-- The window in which a number came last, and above all, and no other bit is set.
abbrev pub only : ℕ → Window
only n = record { top = n; ring = slice_set empty_window.ring (place n) (bit_of n) }

-- Each edge by its name.
pub record Edges : Type 0 where
  -- 0 never comes, and 1 is the first that may
  pub zero_at_first : Row [] 0 TooOld
  pub one_at_first : Row [] 1 Fresh
  pub zero_later : Row (1 ∷ []) 0 TooOld
  pub one_again : Row (1 ∷ []) 1 Came
  -- the lowest number that may come, and the one below it
  pub lowest : Row (3000 ∷ []) 953 Fresh
  pub below_lowest : Row (3000 ∷ []) 952 TooOld
  pub lowest_again : Row (953 ∷ 3000 ∷ []) 953 Came
  -- a jump past the whole ring: all words are cleared but for the bit of the number that came, the word too that it left
  pub past_ring : window_of (5000 ∷ 1 ∷ []) ≡ only 5000
  pub past_ring_two : Row (5000 ∷ 1 ∷ []) 2 TooOld
  pub past_ring_same_word : Row (4290 ∷ 65 ∷ []) 4289 Fresh
  -- a jump by the span less one, by the span and by one more: what came may come no more from the span on
  pub jump_less_one : Row ((100 + span - 1) ∷ 100 ∷ []) 100 Came
  pub jump_span : Row ((100 + span) ∷ 100 ∷ []) 100 TooOld
  pub jump_span_next : Row ((100 + span) ∷ 101 ∷ 100 ∷ []) 101 Came
  pub jump_one_more : Row ((100 + span + 1) ∷ 101 ∷ 100 ∷ []) 101 TooOld
  -- a jump by all 33 words, into the word that it left: its old bits are cleared
  pub jump_ring : window_of ((64 + span + word_bits) ∷ 65 ∷ []) ≡ only (64 + span + word_bits)
  pub jump_ring_same_bit : Row ((66 + span + word_bits) ∷ 65 ∷ []) (65 + span + word_bits) Fresh
  -- the largest number, and those about it
  pub largest_fresh : Row (1 ∷ []) largest Fresh
  pub largest_again : Row (largest ∷ 1 ∷ []) largest Came
  pub largest_lowest : Row (largest ∷ []) (largest - span + 1) Fresh
  pub largest_below : Row (largest ∷ []) (largest - span) TooOld
  pub largest_only : window_of (largest ∷ (largest - span - word_bits) ∷ 1 ∷ []) ≡ only largest
