use Rattle.std.proofs.Common.{◌≡◌, false, take}
use Rattle.std.specs.List.{list_any}
use Rattle.model_review.specs.Seen.{is_lost_fact, state_number}
use Rattle.model_review.proofs.flows.is_lost_variant.Given as goal

abbrev pub invariant-loop-state : goal.invariant-loop-state
invariant-loop-state l = list_any (λ state. is_lost_fact l.part.view.now l.part.states.now l.target (state_number l.part.view.now l.part.owner state)) (take l.state-index l.states) ≡ false
