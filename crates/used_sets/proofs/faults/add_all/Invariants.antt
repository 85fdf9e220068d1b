use Rattle.std.proofs.Common.{◌≡◌, ◌++◌, flat_map, take}
use Rattle.used_sets.proofs.faults.add_all.Given as goal

abbrev pub invariant-loop-item : goal.invariant-loop-item
invariant-loop-item g l = l.sets ≡ l.fn.sets ++ flat_map g.T.HasSets.sets (take l.item-index l.items)
