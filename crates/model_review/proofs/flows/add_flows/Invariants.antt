use Rattle.std.proofs.Common.{◌≡◌, ◌++◌, take}
use Rattle.plain_values.specs.Numbered.{numbered_from}
use Rattle.model_review.specs.Findings.{hidden_flow}
use Rattle.model_review.proofs.flows.add_flows.Given as goal

abbrev pub invariant-loop-number : goal.invariant-loop-number
invariant-loop-number l = l.found ≡ l.fn.found ++ numbered_from (hidden_flow l.paths l.part.view.now l.part.states.now l.part.owner) 0 (take l.number l.flows)
