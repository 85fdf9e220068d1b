use Rattle.std.proofs.Common.{◌≡◌, flat_map, option_to_list, take}
use Rattle.galileo_reader.specs.Nodes.{gate_place}
use Rattle.galileo_reader.proofs.building.gate_places.Given as goal

abbrev pub invariant-loop-line : goal.invariant-loop-line
invariant-loop-line l = l.places ≡ flat_map (λ line. option_to_list (gate_place line)) (take l.line-index l.lines)
