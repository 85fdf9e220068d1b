use Rattle.std.proofs.Common.{take}
use Rattle.std.specs.List.{AllByRecursion}
use Rattle.model_facts.specs.inner.Laws.{IsNamed}
use Rattle.model_facts.proofs.named.models_form.Given as goal

abbrev pub invariant-loop-model : goal.invariant-loop-model
invariant-loop-model l = AllByRecursion IsNamed (take l.model-index l.models)
