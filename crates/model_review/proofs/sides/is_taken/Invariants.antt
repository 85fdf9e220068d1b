use Rattle.std.proofs.Common.{◌≡◌, false, take}
use Rattle.std.specs.List.{list_any}
use Rattle.model_review.specs.Findings.{takes}
use Rattle.model_review.proofs.sides.is_taken.Given as goal

abbrev pub invariant-loop-flow : goal.invariant-loop-flow
invariant-loop-flow l = list_any (takes l.view l.owner l.number l.kind) (take l.flow-index l.flows) ≡ false
