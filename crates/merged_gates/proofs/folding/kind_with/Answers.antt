use Rattle.round_gates.specs.inner.Trees.{input_true}
use Rattle.merged_gates.proofs.InputLaws.{kind-one}
use Rattle.merged_gates.proofs.folding.kind_with.Goals as goal

pub returns-then-inputs-eq1 : goal.returns-then-inputs-eq1
returns-then-inputs-eq1 c = λ events set. kind-one c.args.kind c.requires (input_true events set) c.args.inputs.now c.if-inputs-eq1.true
