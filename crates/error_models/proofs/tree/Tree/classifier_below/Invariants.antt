use Rattle.std.proofs.Common.{◌≡◌, Some, drop}
use Rattle.error_models.specs.Below.{classifier_below}
use Rattle.error_models.proofs.tree.Tree.classifier_below.Given as goal

abbrev pub invariant-loop-name : goal.invariant-loop-name
invariant-loop-name l = classifier_below l.self.packages l.self.kinds l.current (drop l.name-index l.path) ≡ classifier_below l.self.packages l.self.kinds (Some l.fn.classifier) l.path
