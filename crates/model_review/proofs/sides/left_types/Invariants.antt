use Rattle.std.proofs.Common.{◌≡◌, filter, take}
use Rattle.model_review.specs.Findings.{is_left}
use Rattle.model_review.proofs.sides.left_types.Given as goal

abbrev pub invariant-loop-kind : goal.invariant-loop-kind
invariant-loop-kind l = l.types ≡ filter (is_left l.view l.owner l.number) (take l.kind-index l.kind-items)
