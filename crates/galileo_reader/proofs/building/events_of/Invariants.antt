use Rattle.std.proofs.Common.{◌≡◌, flat_map, option_to_list, take}
use Rattle.galileo_reader.specs.Nodes.{event_in}
use Rattle.galileo_reader.proofs.building.events_of.Given as goal

abbrev pub invariant-loop-line : goal.invariant-loop-line
invariant-loop-line l = l.events ≡ flat_map (λ line. option_to_list (event_in line)) (take l.line-index l.lines)
