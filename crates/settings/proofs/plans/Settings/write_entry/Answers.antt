use Rattle.std.proofs.Common.{◌≡◌, ◌++◌, [], cond, ap, ◌∙◌}
use Rattle.settings.specs.declared.plans.Key.{Key}
use Rattle.settings.specs.declared.ranges.Range.{Range}
use Rattle.settings.specs.Plans.{key_at, outside_of}
use Rattle.settings.specs.Ranges.{range_at}
use Rattle.settings.specs.Writing.{four}
use Rattle.settings.proofs.Places.{joined}
use Rattle.settings.proofs.plans.Settings.write_entry.Goals as goal

pub returns : goal.returns
returns c = λ ok.
    let last : c.extend_from_slice-4.new.self.items ≡ c.extend_from_slice-3.new.self.items ++ c.to_be_bytes-3.result = c.extend_from_slice-4.ensures.items ∙ ap (λ b. cond b (c.extend_from_slice-3.new.self.items ++ c.to_be_bytes-3.result) c.extend_from_slice-3.new.self.items) ok in
    let key : c.bytes.result.now ≡ (key_at c.args.self.now c.args.gate).bytes = c.bytes.ensures ∙ ap (λ (k : Key). k.bytes) c.key.ensures in
    let first : c.to_be_bytes.result ≡ four (range_at c.args.self.now.plan.ranges c.args.gate).first [] = c.to_be_bytes.ensures ∙ ap (λ (r : Range). four r.first []) c.range-range.ensures in
    let end : c.to_be_bytes-2.result ≡ four (range_at c.args.self.now.plan.ranges c.args.gate).last [] = c.to_be_bytes-2.ensures ∙ ap (λ (r : Range). four r.last []) c.range-range.ensures in
    let out : c.to_be_bytes-3.result ≡ four (outside_of c.args.self.now.plan c.args.gate) [] = c.to_be_bytes-3.ensures ∙ ap (λ n. four n []) c.outside.ensures in
    joined c.args.bytes.now.items _ _ _ _ _ _ _ _ c.in_ok-extend_from_slice.ensures.items c.in_ok-extend_from_slice-2.ensures.items c.in_ok-extend_from_slice-3.ensures.items last
    ∙ (λ j. c.args.bytes.now.items ++ (key j ++ (first j ++ (end j ++ out j))))
