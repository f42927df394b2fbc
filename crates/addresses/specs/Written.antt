-- Numbers, addresses and prefixes as they are written, and that reading gives them back. Assumes
-- nothing.
use Rattle.std.specs.Prelude.{◌≡◌, ℕ, ◌/◌, ◌%◌, ◌^◌, ◌<◌, ◌≤◌, List, ◌∷◌, ◌++◌, Some, decimal}
use Rattle.addresses.specs.declared.dotted.Prefix.{Prefix}
use Rattle.addresses.specs.Numbers.{number_read}
use Rattle.addresses.specs.Dotted.{address_read, prefix_read}

-- an address as it is written: its four bytes, the highest first, with dots between them
abbrev pub address_text : ℕ → List ℕ
address_text a = decimal (a / 16777216) ++ 46 ∷ (decimal (a / 65536 % 256) ++ 46 ∷ (decimal (a / 256 % 256) ++ 46 ∷ decimal (a % 256)))

-- a prefix as it is written
abbrev pub prefix_text : Prefix → List ℕ
prefix_text p = address_text p.address ++ 47 ∷ decimal p.bits

-- what is written is read back, and what is read is what is written of it
pub record TextsGiveBack : Type 0 where
  pub number_back : (limit n : ℕ) → n ≤ limit → n < 2 ^ 64 → number_read limit (decimal n) ≡ Some n
  pub number_is : (limit n : ℕ) (t : List ℕ) → limit < 2 ^ 64 → number_read limit t ≡ Some n → (t ≡ decimal n) × (n ≤ limit)
  pub address_back : (a : ℕ) → a < 2 ^ 32 → address_read (address_text a) ≡ Some a
  pub address_is : (a : ℕ) (t : List ℕ) → address_read t ≡ Some a → (t ≡ address_text a) × (a < 2 ^ 32)
  pub prefix_back : (p : Prefix) → p.address < 2 ^ 32 → p.bits ≤ 32 → prefix_read (prefix_text p) ≡ Some p
  pub prefix_is : (p : Prefix) (t : List ℕ) → prefix_read t ≡ Some p → (t ≡ prefix_text p) × (p.address < 2 ^ 32) × (p.bits ≤ 32)
