-- Which texts are which address and which prefix. Assumes nothing.
use Rattle.std.specs.Prelude.{ℕ, zero, suc, ◌+◌, ◌*◌, List, [], ◌∷◌, Some, None, Option}
use Rattle.addresses.specs.declared.dotted.Prefix.{Prefix}
use Rattle.std.specs.List.{slice_split}
use Rattle.addresses.specs.Marks.{dot, slash, front, behind}
use Rattle.addresses.specs.Numbers.{and_then, number_read}

-- so many parts, each a number of 0 to 255, as one number after another
abbrev pub bytes_read : ℕ → ℕ → List (List ℕ) → Option ℕ
bytes_read zero n [] = Some n
bytes_read zero n (p ∷ ps) = None
bytes_read (suc k) n [] = None
bytes_read (suc k) n (p ∷ ps) = and_then (number_read 255 p) (λ b. bytes_read k (n * 256 + b) ps)

-- the address that a text is: four such parts between dots
unfoldable pub address_read : List ℕ → Option ℕ
address_read t = bytes_read 4 0 (slice_split dot t)

-- the prefix that a text is: an address, and behind the first slash a number of 0 to 32
unfoldable pub prefix_read : List ℕ → Option Prefix
prefix_read t =
    and_then (behind slash t) (λ rest.
    and_then (address_read (front slash t)) (λ a.
    and_then (number_read 32 rest) (λ n.
    Some (record { address = a; bits = n }))))
