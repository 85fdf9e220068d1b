use Rattle.std.proofs.Common.{◌≡◌, map, take}
use Rattle.model_facts.specs.Assembly.{points_in}
use Rattle.model_facts.proofs.assembly.points_of_models.Given as goal

abbrev pub invariant-loop-model : goal.invariant-loop-model
invariant-loop-model l = map (λ points. points.now) l.points ≡ points_in (take l.model-index l.models)
