use Rattle.std.proofs.Common.{◌≡◌, filter, take}
use Rattle.model_review.specs.Seen.{is_always, number_at}
use Rattle.model_review.proofs.sides.always_types.Given as goal

abbrev pub invariant-loop-kind : goal.invariant-loop-kind
invariant-loop-kind l = l.types ≡ filter (λ kind. is_always l.view (number_at l.view l.side kind)) (take l.kind-index l.kind-items)
