-- What a window says of numbers: by the list of all that came, by its bits, and when the two are of one history. Assumes nothing.
use Rattle.std.specs.Prelude.{◌≡◌, ℕ, zero, suc, ◌+◌, ◌-◌, ◌*◌, ◌/◌, ◌%◌, ◌^◌, ◌<◌, ◌≤◌, min, Bool, true, false, cond, ◌&&◌, ◌||◌, List, length, replicate, ◌==◌, bit_and, bit_or, nat_le, nat_lt, slice_index, slice_set}
use Rattle.gates.specs.Talk.{Rules, Talk, is_in, lives, may_come}
use Rattle.window.specs.declared.state.Window.{Window}
use Rattle.window.specs.declared.state.Verdict.{Verdict}
use Rattle.window.specs.declared.state.Verdict.TheVariants.{Fresh, TooOld, Came}

-- How many numbers a word has bits for.
abbrev pub word_bits : ℕ
word_bits = 64

-- How many words a ring has.
abbrev pub words : ℕ
words = 33

-- How far below the highest number a number may still come.
abbrev pub span : ℕ
span = (words - 1) * word_bits

-- A number that can't come, whatever did: 0, or too far below the highest that came.
abbrev pub too_old : (top n : ℕ) → Bool
too_old top n = n == 0 || nat_le (n + span) top

-- What the highest number that came and the list of all that came say of a number.
abbrev pub verdict_of : (top : ℕ) → (heard : List ℕ) → ℕ → Verdict
verdict_of top heard n = cond (too_old top n) TooOld (cond (is_in n heard) Came Fresh)

-- The block of a number: the numbers of a block have their bits in one word.
abbrev pub block : ℕ → ℕ
block n = n / word_bits

-- The word of the ring that has a number's bit.
abbrev pub place : ℕ → ℕ
place n = block n % words

-- Whether the k-th bit of a word is set.
abbrev pub bit : ℕ → ℕ → Bool
bit w k = bit_and (w / 2 ^ k) 1 == 1

-- The bit of a number in its word.
abbrev pub bit_of : ℕ → ℕ
bit_of n = 2 ^ (n % word_bits)

-- Whether a number's bit is set in a ring.
abbrev pub is_marked : ℕ → List ℕ → Bool
is_marked n ring = bit (slice_index ring (place n)) (n % word_bits)

-- The ring with a number's bit set.
abbrev pub marked : ℕ → List ℕ → List ℕ
marked n ring = slice_set ring (place n) (bit_or (slice_index ring (place n)) (bit_of n))

-- The ring with so many words cleared, from that of a block on.
unfoldable pub cleared : (from count : ℕ) → List ℕ → List ℕ
cleared from zero ring = ring
cleared from (suc k) ring = slice_set (cleared from k ring) ((from + k) % words) 0

-- The ring with the words cleared that are passed over when the highest number grows from `top` to `n`: at most all.
abbrev pub passed : (top n : ℕ) → List ℕ → List ℕ
passed top n ring = cleared (block top + 1) (min (block n - block top) words) ring

-- The window with a highest number of at least n, its bit not yet set.
abbrev pub raised : ℕ → Window → Window
raised n w = cond (nat_lt w.top n) (record { top = n; ring = passed w.top n w.ring }) w

-- The window with a number's bit set.
abbrev pub noted : ℕ → Window → Window
noted n w = record { top = w.top; ring = marked n w.ring }

-- A window without a bit set.
abbrev pub blank_at : ℕ → Window
blank_at top = record { top = top; ring = replicate words 0 }

-- The window before any number came.
abbrev pub empty_window : Window
empty_window = blank_at 0

-- What a window's bits say of a number.
abbrev pub look_bits : Window → ℕ → Verdict
look_bits w n =
    cond (too_old w.top n) TooOld (cond (nat_lt w.top n) Fresh (cond (is_marked n w.ring) Came Fresh))

-- The window after a number came: one that is too old leaves it as it was.
abbrev pub after_bits : Window → ℕ → Window
after_bits w n = cond (too_old w.top n) w (noted n (raised n w))

-- The window holds what came, by the highest number that came and the list of all: none above the highest came, and for each number of the
-- 33 blocks up to that of the highest the bit says whether it came. (The span alone would not do: a number above the highest can have its bit
-- in the word of the oldest.)
pub record Stands (w : Window) (top : ℕ) (heard : List ℕ) : Type 0 where
  pub highest : w.top ≡ top
  pub above : (n : ℕ) → is_in n heard ≡ true → n ≤ top
  pub whole : length w.ring ≡ words
  pub bits : (n : ℕ) → block n ≤ block top → block top < block n + words → is_marked n w.ring ≡ is_in n heard

-- Whether a verdict lets a number come.
abbrev pub is_fresh : Verdict → Bool
is_fresh Fresh = true
is_fresh TooOld = false
is_fresh Came = false

-- Where the rules have this span, a number may come in a talk exactly if the talk is not over and the verdict on the number is that it is fresh.
abbrev pub AsInTalks : Type 0
AsInTalks = (r : Rules) (t : Talk) (now n : ℕ) → r.window ≡ span → may_come r now n t ≡ (lives r now t && is_fresh (verdict_of t.top t.heard n))
