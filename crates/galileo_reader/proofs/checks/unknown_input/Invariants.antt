use Rattle.std.proofs.Common.{◌≡◌, drop}
use Rattle.galileo_reader.specs.Nodes.{first_some, unknown_name}
use Rattle.galileo_reader.proofs.checks.unknown_input.Given as goal

abbrev pub invariant-loop-name : goal.invariant-loop-name
invariant-loop-name l = first_some (unknown_name l.nodes) (drop l.name-index l.names) ≡ first_some (unknown_name l.nodes) l.names
