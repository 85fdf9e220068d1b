use Rattle.std.proofs.Common.{◌≡◌, map, take}
use Rattle.galileo_reader.specs.Nodes.{input_of}
use Rattle.galileo_reader.proofs.building.inputs_of.Given as goal

abbrev pub invariant-loop-name : goal.invariant-loop-name
invariant-loop-name l = l.inputs ≡ map (input_of l.nodes) (take l.name-index l.names)
