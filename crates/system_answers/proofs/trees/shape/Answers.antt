use Rattle.std.proofs.lemmas.Result.{IfOk-weaker}
use Rattle.system_answers.proofs.Shapes.{merged_shape, merged_truth}
use Rattle.system_answers.proofs.trees.shape.Goals as goal

pub returns-then-is_merged-clause-shaped : goal.returns-then-is_merged-clause-shaped
returns-then-is_merged-clause-shaped c = merged_shape c.args.is_merged c.args.tree c.merged.result c.if-is_merged.true c.merged.ensures.gates c.merged.ensures.reached c.merged.ensures.settled

pub returns-then-is_merged-clause-truth : goal.returns-then-is_merged-clause-truth
returns-then-is_merged-clause-truth c = merged_truth c.args.system.now c.args.tree c.merged.result c.merged.ensures.truth
