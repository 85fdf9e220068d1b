use Rattle.std.proofs.Common.{◌≡◌, take}
use Rattle.component_extension.specs.Items.{clauses_of}
use Rattle.component_extension.proofs.items.clauses_of.Given as goal

abbrev pub invariant-loop-classifier : goal.invariant-loop-classifier
invariant-loop-classifier l = l.clauses.items ≡ clauses_of (take l.classifier-index l.classifiers)
