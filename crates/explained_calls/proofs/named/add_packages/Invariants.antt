use Rattle.std.proofs.Common.{◌≡◌, ◌++◌, map, take}
use Rattle.std.specs.List.{flat_map}
use Rattle.package_index.specs.Lookup.{package_of}
use Rattle.page_tokens.specs.Keys.{joined}
use Rattle.explained_calls.proofs.named.add_packages.Given as goal

abbrev pub invariant-loop-unit : goal.invariant-loop-unit
invariant-loop-unit l = l.names ≡ l.initial.names ++ map (λ unit. joined unit.name) (flat_map package_of (take l.unit-index l.units))
