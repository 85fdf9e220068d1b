use Rattle.std.proofs.Common.{◌≡◌, ◌++◌, flat_map, take}
use Rattle.used_sets.specs.Sets.{state_sets}
use Rattle.used_sets.proofs.conditions.add_states.Given as goal

abbrev pub invariant-loop-state : goal.invariant-loop-state
invariant-loop-state l = l.sets ≡ l.fn.sets ++ flat_map state_sets (take l.state-index l.states)
