use Rattle.std.proofs.Common.{◌≡◌, filter, take}
use Rattle.model_review.specs.Seen.{number_at, stops}
use Rattle.model_review.proofs.sides.lost_types.Given as goal

abbrev pub invariant-loop-kind : goal.invariant-loop-kind
invariant-loop-kind l = l.types ≡ filter (λ kind. stops l.view (number_at l.view l.side kind)) (take l.kind-index l.kind-items)
