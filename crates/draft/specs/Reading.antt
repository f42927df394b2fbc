-- Which texts are which plan: line after line, to the end or to the first line that is wrong.
-- Assumes nothing.
use Rattle.std.specs.Prelude.{ℕ, ◌+◌, Bool, ◌==◌, List, [], ◌∷◌, Ok, Err, Result}
use Rattle.std.specs.List.{slice_split}
use Rattle.draft.specs.declared.drafts.Draft.{Draft}
use Rattle.draft.specs.declared.faults.TextFault.{TextFault}
use Rattle.draft.specs.declared.faults.Wrong.{Wrong}
use Rattle.draft.specs.Drafts.{empty_draft, line_taken}
use Rattle.draft.specs.Words.{words_of}

-- what follows a line: the other lines, where it was taken, and else its number with its fault
abbrev pub or_wrong : ℕ → Result Draft TextFault → (Draft → Result Draft Wrong) → Result Draft Wrong
or_wrong before (Ok d) next = next d
or_wrong before (Err e) next = Err (record { line = before + 1; fault = e })

-- lines after so many others
abbrev pub lines_taken : ℕ → List (List ℕ) → Draft → Result Draft Wrong
lines_taken before [] d = Ok d
lines_taken before (line ∷ rest) d = or_wrong before (line_taken (words_of line) d) (lines_taken (before + 1) rest)

-- whether a byte ends a line
abbrev pub line_feed : ℕ → Bool
line_feed b = b == 10

-- the plan that a text says, or its first line that is wrong
unfoldable pub draft_read : List ℕ → Result Draft Wrong
draft_read text = lines_taken 0 (slice_split line_feed text) empty_draft
