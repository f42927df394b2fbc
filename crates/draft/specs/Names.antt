-- Names of gates. Assumes nothing.
use Rattle.std.specs.Prelude.{ℕ, ◌-◌, Bool, cond, ◌&&◌, ◌||◌, List, ◌++◌, length, take, replicate, Some, None, Option, ◌==◌, nat_le, position, slice_index_or}
use Rattle.std.specs.Char.{is_ascii_alphanumeric}
use Rattle.std.specs.List.{list_all}
use Rattle.std.specs.Str.{bytes_eq}
use Rattle.draft.specs.declared.names.Name.{Name}

-- whether a byte is a letter, a digit, - or _
abbrev pub name_byte : ℕ → Bool
name_byte c = (is_ascii_alphanumeric c || c == 45) || c == 95

-- a word as a name: its bytes, and zeros up to 32
abbrev pub name_of : List ℕ → Name
name_of w = record { bytes = w ++ replicate (32 - length w) 0; length = length w }

-- the name that a word is
unfoldable pub name_read : List ℕ → Option Name
name_read w = cond (nat_le (length w) 32 && list_all name_byte w) (Some (name_of w)) None

-- the word that a name is
abbrev pub name_text : Name → List ℕ
name_text n = take n.length n.bytes

-- the name that stands where none was put
abbrev pub blank_name : Name
blank_name = record { bytes = replicate 32 0; length = 0 }

-- the name of a gate
abbrev pub name_at : List Name → ℕ → Name
name_at names gate = slice_index_or names gate blank_name

-- the first gate that has this name
abbrev pub named : List Name → List ℕ → Option ℕ
named names w = position (λ n. bytes_eq (name_text n) w) names
