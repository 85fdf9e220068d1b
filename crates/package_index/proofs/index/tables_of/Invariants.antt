use Rattle.std.proofs.Common.{[], take, flat_map}
use Rattle.package_index.specs.Lookup.{package_of}
use Rattle.package_index.specs.inner.Tables.{Gathered}
use Rattle.package_index.proofs.index.tables_of.Given as goal

abbrev pub invariant-loop-file : goal.invariant-loop-file
invariant-loop-file l = Gathered [] l.packages l.fn.refusals l.refusals (flat_map (flat_map package_of) (take l.file-index l.files))
