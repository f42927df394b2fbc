use Rattle.std.proofs.Common.{refl, arith, rules}
use Rattle.std.proofs.lemmas.Iterator.Splits.{YieldsList-from_slice_split}
use Rattle.std.specs.List.{slice_split}
use Rattle.addresses.specs.Dotted.{address_read}
use Rattle.addresses.specs.Marks.{dot}
use Rattle.addresses.proofs.Parts.{limit_is, rest_more, room, room_more}
use Rattle.addresses.proofs.dotted.read_address.Goals as goal

pub loop-limit-init : goal.loop-limit-init
unfolding address_read
loop-limit-init c = (
  record {
    parts = slice_split dot c.args.text.now;
    yields = YieldsList-from_slice_split _ dot c.args.text.now c.split-parts.ensures.rest c.split-parts.ensures.done c.split-parts.ensures.closure (λ x b q k. search rules);
    read = refl;
  },
  omega arith,
)

pub overflow_mul-address : goal.overflow_mul-address
overflow_mul-address c = omega (arith, room c.loop-limit.address c.loop-limit.limit-index c.loop-limit.invariant.1 (omega arith))

pub overflow_add-address : goal.overflow_add-address
overflow_add-address c =
    omega (arith, room c.loop-limit.address c.loop-limit.limit-index c.loop-limit.invariant.1 (omega arith), c.in_ok-address.ensures.within, limit_is c.loop-limit.limit-index (omega arith))

pub loop-limit-preserved : goal.loop-limit-preserved
loop-limit-preserved c = (
  rest_more c.loop-limit.invariant.0 {x = c.in_ok-next.field-0} c.loop-limit-test.true c.in_ok-next.ensures.steps c.in_ok-address.ensures.value,
  room_more c.loop-limit.address c.loop-limit.limit-index c.in_ok-address.field-0 c.loop-limit.invariant.1 c.loop-limit-test.true (omega (arith, c.in_ok-address.ensures.within, limit_is c.loop-limit.limit-index c.loop-limit-test.true)),
)
