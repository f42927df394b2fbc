-- Numbers and keys at a place among bytes, all high byte first. Assumes nothing.
use Rattle.std.specs.Prelude.{ℕ, ◌+◌, ◌*◌, Bool, cond, ◌&&◌, List, [], ◌∷◌, length, take, drop, Some, None, Ok, Err, Option, Result, nat_le}
use Rattle.settings.specs.declared.faults.Cause.{Cause}
use Rattle.settings.specs.declared.faults.Cause.TheVariants.{Missing, Wrong}
use Rattle.settings.specs.declared.faults.Fault.{Fault}

-- the number that bytes are after a number, high byte first
abbrev pub number_from : ℕ → List ℕ → ℕ
number_from n [] = n
number_from n (b ∷ bs) = number_from (n * 256 + b) bs

-- so many bytes at a place
abbrev pub part : List ℕ → ℕ → ℕ → List ℕ
part bytes at size = take size (drop at bytes)

-- the number of so many bytes at a place
abbrev pub number_at : List ℕ → ℕ → ℕ → ℕ
number_at bytes at size = number_from 0 (part bytes at size)

-- so many bytes at a place, or none where they aren't all there
unfoldable pub bytes_in : List ℕ → ℕ → ℕ → Option (List ℕ)
bytes_in bytes at size = cond (nat_le (at + size) (length bytes)) (Some (part bytes at size)) None

-- the number of so many bytes at a place, or none where they aren't all there
unfoldable pub number_in : List ℕ → ℕ → ℕ → Option ℕ
number_in bytes at size = cond (nat_le (at + size) (length bytes)) (Some (number_at bytes at size)) None

-- whether a number lies between two others, both included
abbrev pub between : ℕ → ℕ → ℕ → Bool
between least limit n = nat_le least n && nat_le n limit

-- a value that is there and fits; else the fault, given the cause
abbrev pub checked_by : {A : Type 0} → (A → Bool) → (Cause → Fault) → Option A → Result A Fault
checked_by fits fault None = Err (fault Missing)
checked_by fits fault (Some x) = cond (fits x) (Ok x) (Err (fault Wrong))

-- a number that is there and lies between two others; else the fault, given the cause
abbrev pub checked : (Cause → Fault) → ℕ → ℕ → Option ℕ → Result ℕ Fault
checked fault least limit = checked_by (between least limit) fault
