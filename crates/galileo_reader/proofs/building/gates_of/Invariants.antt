use Rattle.std.proofs.Common.{◌≡◌, flat_map, option_to_list, take}
use Rattle.galileo_reader.specs.Nodes.{gate_in}
use Rattle.galileo_reader.proofs.building.gates_of.Given as goal

abbrev pub invariant-loop-line : goal.invariant-loop-line
invariant-loop-line l = l.gates ≡ flat_map (λ line. option_to_list (gate_in l.nodes line)) (take l.line-index l.line-items)
