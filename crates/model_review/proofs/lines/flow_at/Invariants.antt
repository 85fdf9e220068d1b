use Rattle.std.proofs.Common.{◌≡◌, drop}
use Rattle.model_review.specs.Lines.{flow_at}
use Rattle.model_review.proofs.lines.flow_at.Given as goal

-- what is left has the source or path of the place that is left
abbrev pub invariant-loop-flow : goal.invariant-loop-flow
invariant-loop-flow l = flow_at l.left (drop l.flow-index l.flows) ≡ flow_at l.number l.flows
