-- Which name a line begins with, and where what follows it begins. Assumes nothing.
use Rattle.std.proofs.Common.{◌≡◌, ℕ, ◌+◌, ◌<◌, ◌≤◌, true, List, length, get_or, drop, Some, None, ap, ◌∙◌, arith, get_or-drop}
use Rattle.std.proofs.lemmas.List.{at_drop_more}
use Rattle.std.proofs.lemmas.Bool.Decides.{nat_tests}
use Rattle.lines.specs.declared.names.Name.{Name}
use Rattle.lines.specs.Names.{name_text, starts_with, name_start, or_else, find_among}

-- behind a name that the line begins with stands a space
pub behind_space : (line name rest : List ℕ) → starts_with line name ≡ true → rest ≡ drop (length name) line → length rest + length name ≡ length line → 1 ≤ length rest → get_or rest 0 0 ≡ 32 → Some (length name + 1) ≡ name_start line name
behind_space line name rest begins is long some space = grind (arith, nat_tests, get_or-drop)

-- a line that doesn't begin with a name may begin with the next one
pub passed : (line : List ℕ) (names : List Name) (i : ℕ) (d : Name) → i < length names → name_start line (name_text (get_or names i d)) ≡ None → find_among line (drop i names) ≡ find_among line (drop (i + 1) names)
passed line names i d here none = at_drop_more (find_among line) names i d here ∙ ap (λ at. or_else (get_or names i d) at (find_among line (drop (i + 1) names))) none
