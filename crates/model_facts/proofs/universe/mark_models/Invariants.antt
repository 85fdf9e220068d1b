use Rattle.std.proofs.Common.{flat_map, take}
use Rattle.model_facts.specs.Assembly.{model_numbers}
use Rattle.model_facts.specs.inner.Steps.{Marks}
use Rattle.model_facts.proofs.universe.mark_models.Given as goal

abbrev pub invariant-loop-model : goal.invariant-loop-model
invariant-loop-model l = Marks l.fn.marks (flat_map model_numbers (take l.model-index l.models)) l.marks
