use Rattle.std.proofs.Common.{◌≡◌, ◌++◌, map, take}
use Rattle.explained_calls.specs.inner.Texts.{classifier_name}
use Rattle.explained_calls.proofs.near.add_classifiers.Given as goal

abbrev pub invariant-loop-decl : goal.invariant-loop-decl
invariant-loop-decl l = l.names ≡ l.initial.names ++ map (classifier_name l.packaged l.holder) (take l.decl-index l.holder.decls)
