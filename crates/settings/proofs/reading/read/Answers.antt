use Rattle.std.proofs.Common.{◌≡◌, replicate, Ok, Err, sym, ap, ◌∙◌, arith}
use Rattle.std.proofs.lemmas.Result.{err_from_is_err_and}
use Rattle.settings.specs.declared.plans.Plan.{Plan}
use Rattle.settings.proofs.Steps.{entries_more}
use Rattle.settings.proofs.Taken.{HeadIs, head_is}
use Rattle.settings.proofs.Whole.{header_fault_lem, entry_fault_lem, end-fault, whole}
use Rattle.settings.proofs.reading.read.Goals as goal

pub returns-in_err-header : goal.returns-in_err-header
returns-in_err-header c =
    let exit = err_from_is_err_and c.from_residual.result c.from_residual.ensures.1 in
    record { value = exit.1 ∙ ap Err exit.2 ∙ header_fault_lem _ _ _ c.new-reader.ensures c.in_err-header.ensures }

pub empty-requires : goal.empty-requires
empty-requires c =
    let is : HeadIs c.new-reader.result.bytes.now c.in_ok-header.header = head_is c.new-reader.result.bytes.now c.in_ok-header.header (sym c.in_ok-header.ensures) in
    (is.life_low, is.life_high, is.most_low)

pub loop-gate-init : goal.loop-gate-init
loop-gate-init c = (
  (λ j. Ok (record { own = c.in_ok-header.header.own; plan = sym c.empty.ensures j; keys = replicate 32 (sym c.default.ensures j) })),
  ap (λ (p : Plan). p.gates) c.empty.ensures,
)

pub entry-requires : goal.entry-requires
entry-requires c =
    let is : HeadIs c.new-reader.result.bytes.now c.in_ok-header.header = head_is c.new-reader.result.bytes.now c.in_ok-header.header (sym c.in_ok-header.ensures) in
    omega (arith, is.few, c.loop-gate.invariant.1)

pub returns-in_err-settings : goal.returns-in_err-settings
returns-in_err-settings c =
    let exit = err_from_is_err_and c.from_residual-in_err-settings.result c.from_residual-in_err-settings.ensures.1 in
    record { value = exit.1 ∙ ap Err exit.2 ∙ entry_fault_lem _ _ _ c.new-reader.ensures c.in_ok-header.ensures c.loop-gate.gate c.loop-gate.settings _ c.loop-gate.invariant.0 c.in_err-settings.ensures.value c.loop-gate-test.true }

pub loop-gate-preserved : goal.loop-gate-preserved
loop-gate-preserved c =
    (entries_more _ _ c.loop-gate.settings c.loop-gate.gate c.loop-gate.invariant.0 ∙ sym c.in_ok-settings.ensures.value, omega (arith, c.in_ok-settings.ensures.gates, c.loop-gate.invariant.1))

pub returns-then-bytes-entry_at : goal.returns-then-bytes-entry_at
returns-then-bytes-entry_at c =
    let at : c.loop-gate.gate ≡ c.in_ok-header.header.gates = omega arith in
    record { value = ap Err c.in_header.ensures ∙ end-fault _ _ _ c.new-reader.ensures c.in_ok-header.ensures c.loop-gate.gate c.loop-gate.settings c.entry_at.result at c.loop-gate.invariant.0 c.entry_at.ensures c.if-bytes-entry_at.true }

pub returns : goal.returns
returns c =
    let at : c.loop-gate.gate ≡ c.in_ok-header.header.gates = omega arith in
    record { value = whole _ _ _ c.new-reader.ensures c.in_ok-header.ensures c.loop-gate.gate c.loop-gate.settings c.entry_at.result at c.loop-gate.invariant.0 c.entry_at.ensures c.if-bytes-entry_at.false }
