use Rattle.std.proofs.Common.{◌≡◌, take}
use Rattle.component_extension.specs.Items.{braced_along}
use Rattle.component_extension.proofs.bound.braced_along.Given as goal

abbrev pub invariant-loop-classifier : goal.invariant-loop-classifier
invariant-loop-classifier l = l.bindings ≡ braced_along (take l.classifier-index l.classifiers)
