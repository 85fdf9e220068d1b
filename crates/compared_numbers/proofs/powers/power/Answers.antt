use Rattle.std.proofs.Common.{arith}
use Rattle.compared_numbers.proofs.Tens.{most_power, small_power}
use Rattle.compared_numbers.proofs.powers.power.Goals as goal

pub overflow_mul-value : goal.overflow_mul-value
overflow_mul-value c = let h = small_power c.loop-step._step (omega arith) in omega arith

pub returns-clause-most : goal.returns-clause-most
returns-clause-most c =
    let end = c.loop-step.auto._step-end in
    let few = c.requires in
    let h = most_power c.loop-step._step (omega arith) in
    let value = c.loop-step.invariant in
    omega arith
