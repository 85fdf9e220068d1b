-- What a gate is as a formula, where each gate of its tree is a fact by its position.
use Rattle.std.specs.Prelude.{List, map}
use Rattle.fault_system.specs.declared.formula.Formula.{Formula}
use Rattle.fault_system.specs.declared.formula.Formula.TheVariants as formulas
use Rattle.round_gates.specs.declared.node.GateKind.{GateKind}
use Rattle.round_gates.specs.declared.node.GateKind.TheVariants as kinds
use Rattle.round_gates.specs.declared.tree.Gate.{Gate}
use Rattle.round_gates.specs.declared.tree.Input.{Input}
use Rattle.round_gates.specs.declared.tree.Input.TheVariants as inputs

-- an input as a formula: its event, or its gate as a fact
abbrev pub input_formula : Input → Formula
input_formula (inputs.Event n) = formulas.Event n
input_formula (inputs.Gate n) = formulas.Fact n

-- a gate of a kind as a formula over its parts
abbrev pub kind_formula : GateKind → List Formula → Formula
kind_formula kinds.And parts = formulas.And parts
kind_formula kinds.Or parts = formulas.Or parts
kind_formula (kinds.AtLeast k) parts = formulas.AtLeast k parts

-- a gate as a formula over its inputs
abbrev pub gate_formula : Gate → Formula
gate_formula gate = kind_formula gate.kind (map input_formula gate.inputs)
