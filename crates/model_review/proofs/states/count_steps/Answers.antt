use Rattle.std.proofs.Common.{◌≡◌, ◌<◌, ◌≤◌, filter, length, take, ap, length-take-le, arith}
use Rattle.model_review.specs.Findings.{leads_on}
use Rattle.model_review.proofs.Counting.{filtered-fewer}
use Rattle.model_review.proofs.states.count_steps.Goals as goal

pub overflow_add-count : goal.overflow_add-count
overflow_add-count c =
    let steps = c.items-step-items.result.now in
    let i = c.loop-step.step-index in
    let within : i < length steps = c.loop-step-test.true in
    let count : c.loop-step.count ≡ length (filter (leads_on c.args.model.now) (take i steps)) = c.loop-step.invariant in
    let few : length (filter (leads_on c.args.model.now) (take i steps)) ≤ length (take i steps) = filtered-fewer (leads_on c.args.model.now) (take i steps) in
    let front : length (take i steps) ≡ i = length-take-le i steps (omega (arith, within)) in
    let all = ap length c.items-step-items.ensures.items in
    omega (arith, within, count, few, front, all, c.items-step-items.ensures.few)
