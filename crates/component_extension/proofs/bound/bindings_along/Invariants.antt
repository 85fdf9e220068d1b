use Rattle.std.proofs.Common.{◌≡◌, take}
use Rattle.component_extension.specs.Items.{bindings_along}
use Rattle.component_extension.proofs.bound.bindings_along.Given as goal

abbrev pub invariant-loop-classifier : goal.invariant-loop-classifier
invariant-loop-classifier l = l.bindings ≡ bindings_along (take l.classifier-index l.classifiers)
