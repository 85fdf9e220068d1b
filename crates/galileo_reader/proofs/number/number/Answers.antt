use Rattle.std.proofs.Common.{◌≤◌, arith}
use Rattle.galileo_reader.proofs.Figures.{most, most-few}
use Rattle.galileo_reader.proofs.number.number.Goals as goal

pub overflow_mul-value : goal.overflow_mul-value
overflow_mul-value c =
    let few : most c.loop-b.b-index ≤ 99999999 = most-few c.loop-b.b-index (omega (arith, c.loop-b-test.true, c.requires)) in
    omega (arith, c.loop-b.invariant.small, few)

pub overflow_add-value : goal.overflow_add-value
overflow_add-value c =
    let few : most c.loop-b.b-index ≤ 99999999 = most-few c.loop-b.b-index (omega (arith, c.loop-b-test.true, c.requires)) in
    omega (arith, c.loop-b.invariant.small, few, c.digit_value.ensures.small, c.from.ensures)
