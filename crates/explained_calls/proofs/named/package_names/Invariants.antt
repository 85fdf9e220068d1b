use Rattle.std.proofs.Common.{◌≡◌, take}
use Rattle.explained_calls.specs.inner.Texts.{package_names}
use Rattle.explained_calls.proofs.named.package_names.Given as goal

abbrev pub invariant-loop-units : goal.invariant-loop-units
invariant-loop-units l = l.names ≡ package_names (take l.units-index l.files)
