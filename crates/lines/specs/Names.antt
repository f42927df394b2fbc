-- The names with which input lines begin. Assumes nothing.
use Rattle.std.specs.Prelude.{ℕ, ◌+◌, Bool, cond, List, [], ◌∷◌, length, take, Some, None, codes, Option, ◌==◌, slice_index}
use Rattle.std.specs.Str.{bytes_eq}
use Rattle.lines.specs.declared.names.Name.{Name}
use Rattle.lines.specs.declared.names.Name.TheVariants.{Tick, Drawn, Packet, Word, Fall}

-- a name as it stands on a line
abbrev pub name_text : Name → List ℕ
name_text Tick = codes "tick"
name_text Drawn = codes "drawn"
name_text Packet = codes "packet"
name_text Word = codes "word"
name_text Fall = codes "fall"

-- whether a line begins with a name
abbrev pub starts_with : List ℕ → List ℕ → Bool
starts_with line name = bytes_eq name (take (length name) line)

-- where what follows a name begins: at the end of a line that is the name alone, or behind the one space after it
abbrev pub name_start : List ℕ → List ℕ → Option ℕ
name_start line name =
    cond (starts_with line name) (cond (length line == length name) (Some (length name)) (cond (slice_index line (length name) == 32) (Some (length name + 1)) None)) None

-- this name with its start, or else another answer
abbrev pub or_else : Name → Option ℕ → Option (Name × ℕ) → Option (Name × ℕ)
or_else name (Some at) other = Some (name, at)
or_else name None other = other

-- the first of some names with which a line begins, with where what follows it begins
abbrev pub find_among : List ℕ → List Name → Option (Name × ℕ)
find_among line [] = None
find_among line (name ∷ more) = or_else name (name_start line (name_text name)) (find_among line more)

-- the name with which a line begins, with where what follows it begins
abbrev pub find_name : List ℕ → Option (Name × ℕ)
find_name line = find_among line (Tick ∷ Drawn ∷ Packet ∷ Word ∷ Fall ∷ [])
