use Rattle.std.proofs.Common.{◌≡◌, ◌++◌, flat_map, take}
use Rattle.unread_parts.specs.Unread.{told_properties}
use Rattle.unread_parts.proofs.unread.add_classifiers.Given as goal

abbrev pub invariant-loop-classifier : goal.invariant-loop-classifier
invariant-loop-classifier l = l.parts ≡ l.fn.parts ++ flat_map (told_properties l.what l.number) (take l.classifier-index l.classifiers)
