-- The gates of a tree as a system.
use Rattle.std.specs.Prelude.{map}
use Rattle.fault_system.specs.Systems.{System}
use Rattle.fault_system.specs.declared.formula.FactInfo.{FactInfo}
use Rattle.round_gates.specs.Formulas.{gate_formula}
use Rattle.round_gates.specs.declared.tree.Gate.{Gate}
use Rattle.round_gates.specs.declared.tree.Tree.{Tree}
use Rattle.galileo_writer.specs.TreeText.{gate_name}

-- a gate as a fact of its name
abbrev pub gate_fact : System → Gate → FactInfo
gate_fact system gate = record { name = gate_name system gate; owner = 0; formula = gate_formula gate }

-- the gates of a tree, in order, as facts, with the system's events
abbrev pub gate_system_of : System → Tree → System
gate_system_of system tree = record { facts = map (gate_fact system) tree.gates; events = system.events }
