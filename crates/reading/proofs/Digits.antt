-- A number from its 8 bytes, and the 8 bytes from their number. Assumes nothing.
use Rattle.std.proofs.Common.{◌≡◌, ℕ, ◌+◌, ◌*◌, ◌/◌, ◌%◌, ◌^◌, ◌<◌, refl, arith}
use Rattle.wire.specs.Numbers.{bytes8, number8}

-- the sum of digits that were split off one by one
joined : (n a b c d e f g h r1 r2 r3 r4 r5 r6 r7 : ℕ) → r1 ≡ h → r2 ≡ g * 256 + r1 → r3 ≡ f * 65536 + r2 → r4 ≡ e * 16777216 + r3 → r5 ≡ d * 4294967296 + r4
    → r6 ≡ c * 1099511627776 + r5 → r7 ≡ b * 281474976710656 + r6 → n ≡ a * 72057594037927936 + r7
    → a * 72057594037927936 + b * 281474976710656 + c * 1099511627776 + d * 4294967296 + e * 16777216 + f * 65536 + g * 256 + h ≡ n
joined n a b c d e f g h r1 r2 r3 r4 r5 r6 r7 e1 e2 e3 e4 e5 e6 e7 e8 = omega arith

-- the number of the bytes of a number
pub number-bytes : (n : ℕ) → n < 2 ^ 64 → number8 (bytes8 n) ≡ n
unfolding number8 bytes8
number-bytes n small =
    joined n (n / 72057594037927936 % 256) (n / 281474976710656 % 256) (n / 1099511627776 % 256) (n / 4294967296 % 256) (n / 16777216 % 256) (n / 65536 % 256) (n / 256 % 256) (n % 256)
    (n % 256) (n % 65536) (n % 16777216) (n % 4294967296) (n % 1099511627776) (n % 281474976710656) (n % 72057594037927936)
    refl (omega arith) (omega arith) (omega arith) (omega arith) (omega arith) (omega arith) (omega arith)
