use Rattle.std.proofs.Common.{◌≡◌, ◌&&◌, false, take}
use Rattle.std.specs.List.{list_any}
use Rattle.propagation_points.specs.Uses.{covers}
use Rattle.model_facts.specs.Facts.{inward_of}
use Rattle.model_review.specs.Seen.{is_lost_fact, number_at}
use Rattle.model_review.proofs.flows.is_lost_start.Given as goal

abbrev pub invariant-loop-other : goal.invariant-loop-other
invariant-loop-other l = list_any (λ other. covers l.start.types other && is_lost_fact l.part.view.now l.part.states.now l.target (number_at l.part.view.now (inward_of l.part.owner l.start.point) other)) (take l.other-index l.other-items) ≡ false
