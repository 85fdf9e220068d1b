use Rattle.std.proofs.Common.{◌≡◌, take}
use Rattle.explained_calls.specs.inner.Texts.{names_in}
use Rattle.explained_calls.proofs.near.classifiers_in.Given as goal

abbrev pub invariant-loop-units : goal.invariant-loop-units
invariant-loop-units l = l.names ≡ names_in l.packaged (take l.units-index l.files)
