use Rattle.std.proofs.Common.{◌≡◌, ◌++◌, take}
use Rattle.std.specs.List.{flat_map}
use Rattle.package_index.specs.Lookup.{package_of}
use Rattle.explained_calls.specs.inner.Texts.{classifier_names}
use Rattle.explained_calls.proofs.near.add_units.Given as goal

abbrev pub invariant-loop-unit : goal.invariant-loop-unit
invariant-loop-unit l = l.names ≡ l.initial.names ++ flat_map (classifier_names l.packaged) (flat_map package_of (take l.unit-index l.units))
