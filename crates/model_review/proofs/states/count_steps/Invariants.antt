use Rattle.std.proofs.Common.{◌≡◌, filter, length, take}
use Rattle.model_review.specs.Findings.{leads_on}
use Rattle.model_review.proofs.states.count_steps.Given as goal

abbrev pub invariant-loop-step : goal.invariant-loop-step
invariant-loop-step l = l.count ≡ length (filter (leads_on l.model) (take l.step-index l.step-items))
