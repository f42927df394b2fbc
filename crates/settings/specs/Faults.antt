-- Faults of settings, and steps that stop at the first one. Assumes nothing.
use Rattle.std.specs.Prelude.{ℕ, List, Some, None, Ok, Err, Result, codes}
use Rattle.settings.specs.declared.faults.Field.{Field}
use Rattle.settings.specs.declared.faults.Field.TheVariants.{Version, Gates, Own, Life, Most, Window, Key, Range, Outside, End}
use Rattle.settings.specs.declared.faults.Cause.{Cause}
use Rattle.settings.specs.declared.faults.Fault.{Fault}

-- the field in words, in ASCII
abbrev pub field_name : Field → List ℕ
field_name Version = codes "version"
field_name Gates = codes "number of gates"
field_name Own = codes "own number"
field_name Life = codes "life"
field_name Most = codes "most"
field_name Window = codes "window"
field_name Key = codes "key"
field_name Range = codes "range"
field_name Outside = codes "address outside"
field_name End = codes "end"

-- the fault of a field before the entries
abbrev pub header_fault : Field → Cause → Fault
header_fault f why = record { field = f; gate = None; cause = why }

-- the fault of a field of a gate's entry
abbrev pub entry_fault : Field → ℕ → Cause → Fault
entry_fault f g why = record { field = f; gate = Some g; cause = why }

-- a step after another: not done where that one failed
abbrev pub and_then : {A B : Type 0} → Result A Fault → (A → Result B Fault) → Result B Fault
and_then (Ok x) next = next x
and_then (Err e) next = Err e
