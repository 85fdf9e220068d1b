use Rattle.std.proofs.Common.{◌≡◌, map, take}
use Rattle.std.specs.HashMap.{get}
use Rattle.package_index.specs.inner.Tables.{same_pair}
use Rattle.error_types.specs.inner.Endings.{AreEnds}
use Rattle.error_types.specs.Types.{base_of}
use Rattle.error_types.proofs.hierarchy.bases_of.Given as goal

abbrev pub invariant-loop-number : goal.invariant-loop-number
invariant-loop-number l = record {
  kept : l.declarations ≡ l.fn.declarations;
  bases : l.bases ≡ map (base_of l.fn.declarations) (take l.number l.fn.declarations.types);
  ends : AreEnds l.fn.declarations (get same_pair l.ends);
}
