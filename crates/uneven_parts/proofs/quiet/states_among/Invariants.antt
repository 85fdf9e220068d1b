use Rattle.std.proofs.Common.{◌≡◌, filter, take}
use Rattle.uneven_parts.specs.Quiet.{is_state}
use Rattle.uneven_parts.proofs.quiet.states_among.Given as goal

abbrev pub invariant-loop-number : goal.invariant-loop-number
invariant-loop-number l = l.states ≡ filter (is_state l.keys) (take l.number-index l.places)
