use Rattle.std.proofs.Common.{◌≡◌, map, take}
use Rattle.event_origins.specs.Declarations.{state_declaration}
use Rattle.event_origins.proofs.kinds.states_in.Given as goal

abbrev pub invariant-loop-state : goal.invariant-loop-state
invariant-loop-state l = l.list ≡ map state_declaration (take l.state-index l.states)
