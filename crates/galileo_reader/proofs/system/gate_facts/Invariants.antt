use Rattle.std.proofs.Common.{◌≡◌, map, take}
use Rattle.galileo_reader.specs.TreeSystems.{gate_fact}
use Rattle.galileo_reader.proofs.system.gate_facts.Given as goal

abbrev pub invariant-loop-gate : goal.invariant-loop-gate
invariant-loop-gate l = l.facts ≡ map gate_fact (take l.gate-index l.gates)
