-- Steps that stop at the first fault. Assumes nothing.
use Rattle.std.proofs.Common.{◌≡◌, ℕ, zero, suc, false, cond, ◌+◌, ◌&&◌, leb, List, Some, Option, Ok, Err, Result, sym, ap, ◌∙◌, add-zero, add-suc, add-one, arith}
use Rattle.std.proofs.lemmas.Bool.Decides.{nat_tests}
use Rattle.std.specs.declared.cmp.Ordering.{Ordering}
use Rattle.std.specs.declared.ops.RangeInclusive.{RangeInclusive}
use Rattle.std.specs.Ordering.{nat_cmp, partial_le, partial_lt}
use Rattle.std.specs.Range.{range_inclusive_start, range_inclusive_end, range_inclusive_exhausted, range_inclusive_contains}
use Rattle.settings.specs.declared.faults.Field.{Field}
use Rattle.settings.specs.declared.faults.Fault.{Fault}
use Rattle.settings.specs.declared.plans.Settings.{Settings}
use Rattle.settings.specs.Faults.{header_fault, and_then}
use Rattle.settings.specs.Fields.{checked_by, number_in, between}
use Rattle.settings.specs.Reading.{header_field, entry_read, entries_read}

-- the order of unsigned numbers
abbrev pub by_size : ℕ → ℕ → Option Ordering
by_size a b = Some (nat_cmp a b)

-- a step after one that was done
pub after-ok : {A B : Type 0} (next : A → Result B Fault) {r : Result A Fault} {x : A} → Ok x ≡ r → and_then r next ≡ next x
after-ok next done = ap (λ q. and_then q next) (sym done)

-- a step after one that failed
pub after-err : {A B : Type 0} (next : A → Result B Fault) {r : Result A Fault} {e : Fault} → Err e ≡ r → and_then r next ≡ Err e
after-err next failed = ap (λ q. and_then q next) (sym failed)

-- one entry more
pub entries_more : (bs : List ℕ) (s t : Settings) (i : ℕ) → entries_read bs s i ≡ Ok t → entries_read bs s (i + 1) ≡ entry_read bs i t
entries_more bs s t i read = rw add-one (ap (λ q. and_then q (entry_read bs i)) read)

-- a fault stays the first one
pub fault-stays : (bs : List ℕ) (s : Settings) (i more : ℕ) (e : Fault) → entries_read bs s i ≡ Err e → entries_read bs s (i + more) ≡ Err e
fault-stays bs s i zero e failed = ap (entries_read bs s) (add-zero i) ∙ failed
fault-stays bs s i (suc more) e failed =
    ap (entries_read bs s) (add-suc i more) ∙ ap (λ q. and_then q (entry_read bs (i + more))) (fault-stays bs s i more e failed)

-- a number of any size, checked by a range of its type, is checked as promises have it
pub field_checked : (bs : List ℕ) (f : Field) (at size least limit : ℕ) {r : RangeInclusive ℕ} {o : Option ℕ} {x : Result ℕ Fault} → range_inclusive_start r ≡ least → range_inclusive_end r ≡ limit → range_inclusive_exhausted r ≡ false → o ≡ number_in bs at size → x ≡ checked_by (range_inclusive_contains by_size r) (header_fault f) o → x ≡ header_field bs f at size least limit
field_checked bs f at size least limit {r} {o} {x} first last fresh there found = found ∙ (λ i. checked_by (λ n. within n i) (header_fault f) (there i))
  where
    le : (a b : ℕ) → partial_le by_size a b ≡ leb a b
    le a b = grind (arith, nat_tests)

    within : (n : ℕ) → range_inclusive_contains by_size r n ≡ between least limit n
    within n =
        (λ i. partial_le by_size (first i) n && cond (fresh i) (partial_lt by_size n (range_inclusive_end r)) (partial_le by_size n (last i)))
        ∙ (λ i. le least n i && le n limit i)
