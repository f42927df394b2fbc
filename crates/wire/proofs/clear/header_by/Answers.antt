use Rattle.std.proofs.Common.{◌≡◌, ◌<◌, true, false, ◌&&◌, eqb, get_or, take, Ok, sym, ap, ◌∙◌, arith}
use Rattle.std.proofs.lemmas.Bool.Decides.{nat_tests}
use Rattle.protocol.specs.Kinds.{kind_of}
use Rattle.wire.specs.Reading.{maker_in, opener_in}
use Rattle.wire.proofs.Headers.{header_right, header_wrong, maker_first, opener_first, fields_first}
use Rattle.wire.proofs.clear.header_by.Goals as goal
use Rattle.wire.proofs.clear.header_by.Goals.{then-clear-own-via-then-clear-own, then-clear-own-via-else-clear-own+then-not-there}

pub returns-then-clear-own : goal.returns-then-clear-own
returns-then-clear-own g c test says =
    let w = c.args.word.now in
    let clear = c.unwrap-clear.result.now in
    let first : clear ≡ take 19 w = (rw c.unwrap-clear.ensures at c.first_chunk.ensures.cases).same in
    let maker : get_or clear 1 0 ≡ maker_in w = maker_first w clear first in
    let opener : get_or clear 2 0 ≡ opener_in w = opener_first w clear first in
    let small : get_or clear 1 0 < 256 = omega (arith, c.type_inv.word 1) in
    let wrong : (eqb (opener_in w) c.args.own && test (maker_in w)) ≡ false =
    elim c.then-clear-own.branch [
      | then-clear-own-via-then-clear-own x ↦ grind (arith, nat_tests)
      | then-clear-own-via-else-clear-own+then-not-there x ↦
          let told : x.there.result ≡ test (get_or clear 1 0) = says (get_or clear 1 0) x.there.result small x.there.ensures in
          let no : test (maker_in w) ≡ false = cc in
          grind (arith, nat_tests)
    ] in
    let known : kind_of w ≡ Ok c.in_ok-kind.kind = sym {a = Ok c.in_ok-kind.kind} c.in_ok-kind.ensures.value in
    header_wrong c.args.own test w c.in_ok-kind.kind known wrong

pub returns : goal.returns
returns g c test says =
    let w = c.args.word.now in
    let clear = c.unwrap-clear.result.now in
    let first : clear ≡ take 19 w = (rw c.unwrap-clear.ensures at c.first_chunk.ensures.cases).same in
    let maker : get_or clear 1 0 ≡ maker_in w = maker_first w clear first in
    let opener : get_or clear 2 0 ≡ opener_in w = opener_first w clear first in
    let small : get_or clear 1 0 < 256 = omega (arith, c.type_inv.word 1) in
    let yes : test (maker_in w) ≡ true = sym (ap test maker) ∙ sym (says (get_or clear 1 0) c.there.result small c.there.ensures) ∙ c.if-not-there.false in
    let right : (eqb (opener_in w) c.args.own && test (maker_in w)) ≡ true = grind (arith, nat_tests) in
    c.fields.ensures ∙ fields_first w clear c.in_ok-kind.kind first ∙ sym (header_right c.args.own test w c.in_ok-kind.kind (sym c.in_ok-kind.ensures.value) right)
