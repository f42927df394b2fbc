-- 64-bit numbers as 8 bytes, high byte first. Assumes nothing.
use Rattle.std.specs.Prelude.{ℕ, ◌+◌, ◌*◌, ◌/◌, ◌%◌, List, [], ◌∷◌, slice_index}

-- the 8 bytes of a number
unfoldable pub bytes8 : ℕ → List ℕ
bytes8 n =
    (n / 72057594037927936 % 256) ∷ (n / 281474976710656 % 256) ∷ (n / 1099511627776 % 256) ∷ (n / 4294967296 % 256)
    ∷ (n / 16777216 % 256) ∷ (n / 65536 % 256) ∷ (n / 256 % 256) ∷ (n % 256) ∷ []

-- the number that 8 bytes are
unfoldable pub number8 : List ℕ → ℕ
number8 b =
    slice_index b 0 * 72057594037927936 + slice_index b 1 * 281474976710656 + slice_index b 2 * 1099511627776 + slice_index b 3 * 4294967296
    + slice_index b 4 * 16777216 + slice_index b 5 * 65536 + slice_index b 6 * 256 + slice_index b 7
