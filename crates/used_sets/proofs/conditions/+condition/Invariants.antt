use Rattle.std.proofs.Common.{◌≡◌, ◌++◌, flat_map, take}
use Rattle.used_sets.specs.Sets.{condition_sets}
use Rattle.used_sets.proofs.conditions.+condition.Given as goal

abbrev pub invariant-add_conditions-loop-part : goal.invariant-add_conditions-loop-part
invariant-add_conditions-loop-part l = l.sets ≡ l.fn.sets ++ flat_map condition_sets (take l.part-index l.parts)
