use Rattle.std.proofs.Common.{◌≡◌, flat_map, map}
use Rattle.component_extension.specs.Items.{class_of}
use Rattle.component_extension.proofs.classifier.classifiers_of.Given as goal

abbrev pub invariant-loop-id : goal.invariant-loop-id
invariant-loop-id l = l.classifiers ≡ flat_map (class_of l.index) (map (λ id. id.now) l.yielded)
