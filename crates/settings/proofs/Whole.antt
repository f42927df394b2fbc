-- How whole settings are read: the ways to a fault, and the one to the end. Assumes nothing.
use Rattle.std.proofs.Common.{◌≡◌, ℕ, ◌+◌, ◌-◌, ◌<◌, true, false, cond, eqb, List, length, Ok, Err, Result, sym, ap, ◌∙◌, arith}
use Rattle.std.proofs.lemmas.Bool.Decides.{nat_tests}
use Rattle.settings.specs.declared.faults.Fault.{Fault}
use Rattle.settings.specs.declared.faults.Field.TheVariants as field
use Rattle.settings.specs.declared.faults.Cause.TheVariants.{Wrong}
use Rattle.settings.specs.declared.plans.Settings.{Settings}
use Rattle.settings.specs.declared.reading.Header.{Header}
use Rattle.settings.specs.Layout.{entry_at}
use Rattle.settings.specs.Faults.{header_fault}
use Rattle.settings.specs.Plans.{empty_settings}
use Rattle.settings.specs.Reading.{header_read, entry_read, entries_read, settings_read}
use Rattle.settings.proofs.Steps.{after-ok, after-err, entries_more, fault-stays}

-- the settings with which the entries are begun
abbrev pub begun : Header → Settings
begun h = empty_settings h.own h.life h.most

pub header_fault_lem : (rb bs : List ℕ) (e : Fault) → rb ≡ bs → Err e ≡ header_read rb → Err e ≡ settings_read bs
unfolding settings_read
header_fault_lem rb bs e same failed = sym (after-err _ (failed ∙ ap header_read same))

module _ (rb bs : List ℕ) (h : Header) (same : rb ≡ bs) (head : Ok h ≡ header_read rb) where
  pub entry_fault_lem : (i : ℕ) (t : Settings) (e : Fault) → entries_read rb (begun h) i ≡ Ok t → Err e ≡ entry_read rb i t → i < h.gates → Err e ≡ settings_read bs
  unfolding settings_read
  entry_fault_lem i t e read failed less =
      let at : i + 1 + (h.gates - (i + 1)) ≡ h.gates = omega arith in
      let here : entries_read rb (begun h) (i + 1) ≡ Err e = entries_more rb (begun h) t i read ∙ sym failed in
      let there : entries_read bs (begun h) h.gates ≡ Err e = sym (λ j. entries_read (same j) (begun h) (at j)) ∙ fault-stays rb (begun h) (i + 1) (h.gates - (i + 1)) e here in
      sym (after-ok _ (head ∙ ap header_read same) ∙ after-err _ (sym there))

  all_read : (i : ℕ) (t : Settings) → i ≡ h.gates → entries_read rb (begun h) i ≡ Ok t → entries_read bs (begun h) h.gates ≡ Ok t
  all_read i t at read = sym (λ j. entries_read (same j) (begun h) (at j)) ∙ read

  pub end-fault : (i : ℕ) (t : Settings) (n : ℕ) → i ≡ h.gates → entries_read rb (begun h) i ≡ Ok t → n ≡ entry_at h.gates → (length bs ≡ n → ⊥) → Err (header_fault field.End Wrong) ≡ settings_read bs
  unfolding settings_read
  end-fault i t n at read is wrong =
      let test : eqb (length bs) (entry_at h.gates) ≡ false = grind (arith, nat_tests) in
      sym (after-ok _ (head ∙ ap header_read same) ∙ after-ok _ (sym (all_read i t at read)) ∙ ap (λ b. cond {A = Result Settings Fault} b (Ok t) (Err (header_fault field.End Wrong))) test)

  pub whole : (i : ℕ) (t : Settings) (n : ℕ) → i ≡ h.gates → entries_read rb (begun h) i ≡ Ok t → n ≡ entry_at h.gates → length bs ≡ n → Ok t ≡ settings_read bs
  unfolding settings_read
  whole i t n at read is right =
      let test : eqb (length bs) (entry_at h.gates) ≡ true = grind (arith, nat_tests) in
      sym (after-ok _ (head ∙ ap header_read same) ∙ after-ok _ (sym (all_read i t at read)) ∙ ap (λ b. cond {A = Result Settings Fault} b (Ok t) (Err (header_fault field.End Wrong))) test)
