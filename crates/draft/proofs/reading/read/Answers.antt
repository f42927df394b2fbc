use Rattle.std.proofs.Common.{◌≡◌, Err, ◌∙◌, rules}
use Rattle.std.specs.List.{slice_split}
use Rattle.std.proofs.lemmas.Iterator.Consumers.{YieldsList-from_enumerate}
use Rattle.std.proofs.lemmas.Iterator.Splits.{YieldsList-from_slice_split}
use Rattle.draft.specs.Reading.{line_feed, draft_read}
use Rattle.draft.proofs.Lines.{line_end, line_failed, line_right}
use Rattle.draft.proofs.reading.read.Goals as goal

pub loop-before-init : goal.loop-before-init
unfolding draft_read
loop-before-init c =
    record {
      before = 0;
      lines = slice_split line_feed c.args.text.now;
      yields = YieldsList-from_enumerate (YieldsList-from_slice_split _ line_feed c.args.text.now (search rules) (search rules) (search rules) (λ x b q k. search rules)) (search rules);
      read = search rules;
    }

pub returns-in_err-draft : goal.returns-in_err-draft
returns-in_err-draft c =
    let failed : c.from_residual.result ≡ Err c.in_err-draft.field-0.0 = search rules in
    failed
    ∙ line_failed {t = c.next.new.self} {x = (c.in-Some.before, c.in-Some.line)} c.take_line.result c.map_err.result c.in_err-draft.field-0.0 c.loop-before.invariant c.in-Some.ensures.steps (search rules) c.map_err.ensures.cases (λ e u p. search rules) c.in_err-draft.was

pub loop-before-preserved : goal.loop-before-preserved
loop-before-preserved c = line_right {x = (c.in-Some.before, c.in-Some.line)} c.loop-before.invariant c.in-Some.ensures.steps (search rules)

pub returns : goal.returns
returns c = line_end c.loop-before.invariant c.in-None.ensures.steps
