use Rattle.std.proofs.Common.{◌≡◌, filter, not, take}
use Rattle.model_review.specs.Seen.{may_come, number_at}
use Rattle.model_review.proofs.sides.add_never_types.Given as goal

abbrev pub invariant-loop-kind : goal.invariant-loop-kind
invariant-loop-kind l = l.types ≡ filter (λ kind. not (may_come l.view (number_at l.view l.side kind))) (take l.kind-index l.declared)
