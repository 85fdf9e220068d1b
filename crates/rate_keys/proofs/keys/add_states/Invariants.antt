use Rattle.std.proofs.Common.{◌≡◌, ◌++◌, flat_map, take}
use Rattle.rate_keys.specs.Keys.{lone_event, state_key}
use Rattle.rate_keys.proofs.keys.add_states.Given as goal

abbrev pub invariant-loop-state : goal.invariant-loop-state
invariant-loop-state l = l.keys ≡ l.fn.keys ++ flat_map (state_key (lone_event l.lone.events l.lone.transitions)) (take l.state-index l.states)
