-- What each line of a plan's text adds to what was read before it. Assumes nothing.
use Rattle.std.specs.Prelude.{ℕ, Bool, cond, List, [], ◌∷◌, ◌++◌, is_some, ok_or, Some, None, Ok, Err, codes, Option, Result, ◌==◌, slice_index}
use Rattle.std.specs.Str.{bytes_eq}
use Rattle.protocol.specs.Limits.{life_least, most_least}
use Rattle.addresses.specs.Dotted.{address_read, prefix_read}
use Rattle.addresses.specs.Numbers.{number_read}
use Rattle.settings.specs.declared.faults.Fault.{Fault}
use Rattle.settings.specs.declared.plans.Plan.{Plan}
use Rattle.settings.specs.Plans.{new_plan, add_to}
use Rattle.draft.specs.declared.drafts.Draft.{Draft}
use Rattle.draft.specs.declared.faults.TextFault.{TextFault}
use Rattle.draft.specs.declared.faults.TextFault.TheVariants.{Columns, NotNumber, Twice, TooEarly, NotNext, NotName, SameName, NotPrefix, NotAddress, Refused}
use Rattle.draft.specs.declared.names.Name.{Name}
use Rattle.draft.specs.Names.{name_read, named}
use Rattle.draft.specs.Ranges.{range_of}

-- a step after another: not done where that one failed
abbrev pub and_then : {A B : Type 0} → Result A TextFault → (A → Result B TextFault) → Result B TextFault
and_then (Ok x) next = next x
and_then (Err e) next = Err e

-- what a plan gives, with its fault as one of the text
abbrev pub allowed : Result Plan Fault → Result Plan TextFault
allowed (Ok p) = Ok p
allowed (Err e) = Err (Refused e)

-- nothing was read
abbrev pub empty_draft : Draft
empty_draft = record { life = None; most = None; plan = None; names = [] }

-- a number that may stand once, up to a limit
abbrev pub once_read : Bool → ℕ → List ℕ → Result ℕ TextFault
once_read twice limit w = cond twice (Err Twice) (ok_or (number_read limit w) NotNumber)

-- a line `life TICKS`: once, a number of 16 bits, which is allowed in settings
unfoldable pub life_taken : List ℕ → Draft → Result Draft TextFault
life_taken w d =
    and_then (once_read (is_some d.life) 65535 w) (λ n.
    and_then (allowed (new_plan n most_least)) (λ _.
    Ok (record { life = Some n; most = d.most; plan = d.plan; names = d.names })))

-- a line `most PACKETS`: once, a number of 32 bits, which is allowed in settings
unfoldable pub most_taken : List ℕ → Draft → Result Draft TextFault
most_taken w d =
    and_then (once_read (is_some d.most) 4294967295 w) (λ n.
    and_then (allowed (new_plan life_least n)) (λ _.
    Ok (record { life = d.life; most = Some n; plan = d.plan; names = d.names })))

-- a plan that is begun, or a new one by its life and most
abbrev pub begun_by : Option Plan → Option ℕ → Option ℕ → Result Plan TextFault
begun_by (Some p) life most = Ok p
begun_by None None most = Err TooEarly
begun_by None (Some l) None = Err TooEarly
begun_by None (Some l) (Some m) = allowed (new_plan l m)

-- the plan to which the next gate is added
unfoldable pub begun : Draft → Result Plan TextFault
begun d = begun_by d.plan d.life d.most

-- a plan, if this is the number of its next gate
abbrev pub numbered : Plan → Option ℕ → Result Plan TextFault
numbered p None = Err (NotNext p.gates)
numbered p (Some n) = cond (n == p.gates) (Ok p) (Err (NotNext p.gates))

-- the plan to which the gate of this number is added
unfoldable pub next_gate : List ℕ → Draft → Result Plan TextFault
next_gate w d = and_then (begun d) (λ p. numbered p (number_read 255 w))

-- a name, unless another gate has it
abbrev pub unless_named : Name → Option ℕ → Result Name TextFault
unless_named n None = Ok n
unless_named n (Some gate) = Err (SameName gate)

-- the name that a word is, where no gate has it
unfoldable pub new_name : Draft → List ℕ → Result Name TextFault
new_name d w = and_then (ok_or (name_read w) NotName) (λ n. unless_named n (named d.names w))

-- the plan with one gate more, by the texts of its prefix and its address outside
unfoldable pub grown : Plan → List ℕ → List ℕ → Result Plan TextFault
grown p prefix outside =
    and_then (ok_or (prefix_read prefix) NotPrefix) (λ q.
    and_then (ok_or (address_read outside) NotAddress) (λ o.
    allowed (add_to p (range_of q) o)))

-- a draft with another plan, and the name of its last gate
abbrev pub with_gate : Draft → Plan → Name → Draft
with_gate d p n = record { life = d.life; most = d.most; plan = Some p; names = d.names ++ n ∷ [] }

-- a line `NUMBER NAME A.B.C.D/N A.B.C.D`: the next gate, with a name that none before it has
unfoldable pub gate_taken : List ℕ → List ℕ → List ℕ → List ℕ → Draft → Result Draft TextFault
gate_taken number name prefix outside d =
    and_then (next_gate number d) (λ p.
    and_then (new_name d name) (λ n.
    and_then (grown p prefix outside) (λ q.
    Ok (with_gate d q n))))

-- a line of two words
unfoldable pub setting_taken : List ℕ → List ℕ → Draft → Result Draft TextFault
setting_taken name value d =
    cond (bytes_eq name (codes "life")) (life_taken value d) (cond (bytes_eq name (codes "most")) (most_taken value d) (Err Columns))

-- a line of at least one word that is no comment
abbrev pub columns_taken : List ℕ → List (List ℕ) → Draft → Result Draft TextFault
columns_taken first [] d = Err Columns
columns_taken first (second ∷ []) d = setting_taken first second d
columns_taken first (second ∷ third ∷ []) d = Err Columns
columns_taken first (second ∷ third ∷ fourth ∷ []) d = gate_taken first second third fourth d
columns_taken first (second ∷ third ∷ fourth ∷ fifth ∷ more) d = Err Columns

-- what a line says, by its words: one with none is passed over, and so is one that begins with #
abbrev pub line_taken : List (List ℕ) → Draft → Result Draft TextFault
line_taken [] d = Ok d
line_taken (first ∷ rest) d = cond (slice_index first 0 == 35) (Ok d) (columns_taken first rest d)
