use Rattle.std.proofs.Common.{ap, ◌∙◌}
use Rattle.round_gates.specs.inner.Trees.{input_true}
use Rattle.round_gates.specs.declared.tree.Input.TheVariants as inputs
use Rattle.merged_gates.proofs.InputLaws.{stand-true}
use Rattle.merged_gates.proofs.merging.top_after.Goals as goal

pub returns-in-Gate : goal.returns-in-Gate
returns-in-Gate c = λ events set met. ap (input_true events set) c.in-Gate.ensures ∙ stand-true events set c.args.stands.now met (inputs.Gate c.args.top)
