use Rattle.std.proofs.Common.{◌≡◌, Bor, ℕ, suc, ◌+◌, ◌-◌, Bool, true, false, length, drop, Some, None, ap, ◌∙◌, sym, length-drop, arith, rules}
use Rattle.std.proofs.lemmas.Iterator.{YieldsList-from_slice, IsFirst-from_position}
use Rattle.std.proofs.lemmas.List.{take_all}
use Rattle.addresses.specs.contracts.marks.cut_where.F-Fn.{words}
use Rattle.addresses.proofs.Cutting.{mark_found, mark_none}
use Rattle.addresses.proofs.marks.cut_where.Goals as goal

pub returns-in-Some : goal.returns-in-Some
returns-in-Some g c =
    let found = λ (m : ℕ → Bool) (computes : (b : Bor ℕ) (r : Bool) → (words g.row.F g.F.Fn).post c.args.is_mark b r → r ≡ m b.now).
    let first = IsFirst-from_position _ _ (Some c.in-Some.at) (λ b. m b ≡ true) (λ b. m b ≡ false) c.in-Some.ensures.ran (YieldsList-from_slice c.args.text.now (search rules)) (λ x q k. sym (computes x true (search rules))) (λ x q k. (search rules, sym (computes x false (search rules)))) in
    mark_found m c.args.text.now c.in-Some.at first.0 first.1 first.2
    in
    let next : c.in-Some.at + 1 ≡ suc c.in-Some.at = omega arith in
    record {
      front = λ m computes. sym (found m computes).0;
      behind = λ m computes.
          ap Some (take_all (length c.args.text.now - (c.in-Some.at + 1)) (drop (c.in-Some.at + 1) c.args.text.now) (omega (arith, length-drop {A = ℕ})))
          ∙ ap (λ k. Some (drop k c.args.text.now)) next
          ∙ sym (found m computes).1;
    }

pub returns-in-None : goal.returns-in-None
returns-in-None g c =
    let whole = λ (m : ℕ → Bool) (computes : (b : Bor ℕ) (r : Bool) → (words g.row.F g.F.Fn).post c.args.is_mark b r → r ≡ m b.now).
    mark_none m c.args.text.now (IsFirst-from_position _ _ None (λ b. m b ≡ true) (λ b. m b ≡ false) c.in-None.ensures.ran (YieldsList-from_slice c.args.text.now (search rules)) (λ x q k. sym (computes x true (search rules))) (λ x q k. (search rules, sym (computes x false (search rules))))) in
    record { front = λ m computes. sym (whole m computes).0; behind = λ m computes. sym (whole m computes).1 }
