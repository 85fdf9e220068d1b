use Rattle.std.proofs.Common.{take, flat_map}
use Rattle.package_index.specs.Lookup.{package_of}
use Rattle.package_index.specs.inner.Tables.{Gathered}
use Rattle.package_index.proofs.index.add_file.Given as goal

abbrev pub invariant-loop-unit : goal.invariant-loop-unit
invariant-loop-unit l = Gathered l.fn.packages l.packages l.fn.refusals l.refusals (flat_map package_of (take l.unit-index l.units))
