use Rattle.std.proofs.Common.{◌≡◌, false, not, slice_index_or, take}
use Rattle.std.specs.List.{list_any}
use Rattle.model_review.proofs.states.leads_on.Given as goal

abbrev pub invariant-loop-target : goal.invariant-loop-target
invariant-loop-target l = list_any (λ target. not (slice_index_or l.model.states.always target false)) (take l.target-index l.step.targets) ≡ false
