-- When a gate is true.
use Rattle.std.specs.Prelude.{Bool, List, nat_le}
use Rattle.std.specs.List.{list_all, list_any}
use Rattle.fault_system.specs.Truth.{count_true}
use Rattle.round_gates.specs.declared.node.GateKind.{GateKind}
use Rattle.round_gates.specs.declared.node.GateKind.TheVariants.{And, Or, AtLeast}

-- whether a gate of a kind is true, by its inputs
abbrev pub kind_true : GateKind → List Bool → Bool
kind_true And inputs = list_all (λ input. input) inputs
kind_true Or inputs = list_any (λ input. input) inputs
kind_true (AtLeast k) inputs = nat_le k (count_true inputs)
