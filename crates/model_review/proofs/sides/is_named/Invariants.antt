use Rattle.std.proofs.Common.{◌≡◌, false, take}
use Rattle.std.specs.List.{list_any}
use Rattle.model_review.specs.Findings.{is_sink_at}
use Rattle.model_review.proofs.sides.is_named.Given as goal

abbrev pub invariant-loop-flow : goal.invariant-loop-flow
invariant-loop-flow l = list_any (λ flow. is_sink_at l.name flow.item.kind) (take l.flow-index l.flows) ≡ false
