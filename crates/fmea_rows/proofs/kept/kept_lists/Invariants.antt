use Rattle.std.proofs.Common.{◌≡◌, filter, map, take}
use Rattle.fault_system.specs.Truth.{member}
use Rattle.fmea_rows.proofs.kept.kept_lists.Given as goal

abbrev pub invariant-loop-list : goal.invariant-loop-list
invariant-loop-list l = l.kept.items ≡ map (filter (member l.set)) (take l.list-index l.lists)
