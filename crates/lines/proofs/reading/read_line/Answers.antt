use Rattle.std.proofs.Common.{sym, rules}
use Rattle.lines.proofs.Blanks.{trimmed}
use Rattle.lines.proofs.reading.read_line.Goals as goal

pub returns-then-is_empty : goal.returns-then-is_empty
returns-then-is_empty c = rw (sym (trimmed _ _ c.trim_ascii_end-line.ensures.value)) (search rules)

pub returns-in_default : goal.returns-in_default
returns-in_default c = rw (sym (trimmed _ _ c.trim_ascii_end-line.ensures.value)) (search rules)

pub returns : goal.returns
returns c = rw (sym (trimmed _ _ c.trim_ascii_end-line.ensures.value)) (search rules)
