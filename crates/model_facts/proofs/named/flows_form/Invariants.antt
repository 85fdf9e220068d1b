use Rattle.std.proofs.Common.{take}
use Rattle.std.specs.List.{AllByRecursion}
use Rattle.model_facts.specs.inner.Laws.{IsNamedFlow}
use Rattle.model_facts.proofs.named.flows_form.Given as goal

abbrev pub invariant-loop-flow : goal.invariant-loop-flow
invariant-loop-flow l = AllByRecursion IsNamedFlow (take l.flow-index l.flows)
