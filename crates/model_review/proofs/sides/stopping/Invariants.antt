use Rattle.std.proofs.Common.{◌≡◌, filter, take}
use Rattle.model_review.specs.Findings.{is_stopped}
use Rattle.model_review.proofs.sides.stopping.Given as goal

abbrev pub invariant-loop-kind : goal.invariant-loop-kind
invariant-loop-kind l = l.types ≡ filter (is_stopped l.view l.owner l.number) (take l.kind-index l.kind-items)
