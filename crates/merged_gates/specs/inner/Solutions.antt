-- Sets of positions that agree with the gates of a tree, and inputs that stand for others.
use Rattle.std.specs.Prelude.{ℕ, ◌≡◌, Bool, false, List, [], ◌∷◌, slice_get, Option, Some, None, unwrap_or, if◌then◌else◌}
use Rattle.std.specs.List.{list_all, list_any}
use Rattle.fault_system.specs.Truth.{NumberSet}
use Rattle.round_gates.specs.declared.node.GateKind.{GateKind}
use Rattle.round_gates.specs.declared.node.GateKind.TheVariants.{And, Or, AtLeast}
use Rattle.round_gates.specs.declared.tree.Gate.{Gate}
use Rattle.round_gates.specs.declared.tree.Input.{Input}
use Rattle.round_gates.specs.declared.tree.Input.TheVariants as inputs
use Rattle.round_gates.specs.inner.Trees.{gate_true, input_true}
use Rattle.merged_gates.specs.Merged.{same_input}

-- a set of positions has a gate exactly where the gate is true under the events and the set
abbrev pub IsSolution : NumberSet → NumberSet → List Gate → Type 0
IsSolution events set gates = (n : ℕ) (gate : Gate) → slice_get gates n ≡ Some gate → gate_true events set gate ≡ set n

-- each gate has an input that is true where the gate is
abbrev pub AreStands : NumberSet → NumberSet → List Input → Type 0
AreStands events set stands = (n : ℕ) (input : Input) → slice_get stands n ≡ Some input → input_true events set input ≡ set n

-- what stands for an input: for a gate what the list has, else the input itself
abbrev pub stand_of : List Input → Input → Input
stand_of stands (inputs.Event n) = inputs.Event n
stand_of stands (inputs.Gate n) = unwrap_or (slice_get stands n) (inputs.Gate n)

-- A set agrees with gates and with what stands for them.
pub record Solves (events set : NumberSet) (gates : List Gate) (stands : List Input) : Type 0 where
  pub gates_met : IsSolution events set gates
  pub stands_met : AreStands events set stands

-- each set that agrees with the one agrees with the other
abbrev pub Keeps : List Gate → List Input → List Gate → List Input → Type 0
Keeps gates stands gates_after stands_after =
    (events set : NumberSet) → Solves events set gates stands → Solves events set gates_after stands_after

-- each set that agrees with some gates agrees with others
abbrev pub KeepsGates : List Gate → List Gate → Type 0
KeepsGates gates after = (events set : NumberSet) → IsSolution events set gates → IsSolution events set after

-- each set that agrees with some gates agrees with others, and has the one position where it has the other
abbrev pub KeepsTop : List Gate → ℕ → List Gate → ℕ → Type 0
KeepsTop gates top after top_after =
    (events set : NumberSet) → IsSolution events set gates → IsSolution events set after × (set top_after ≡ set top)

-- a kind that does not count
abbrev pub IsJoin : GateKind → Type 0
IsJoin And = Unit {0}
IsJoin Or = Unit {0}
IsJoin (AtLeast k) = ⊥

-- two lists of inputs have the same inputs: what is so of all, or of one, of the first is so of the second
pub record HasSameInputs (xs ys : List Input) : Type 0 where
  pub all : (test : Input → Bool) → list_all test ys ≡ list_all test xs
  pub any : (test : Input → Bool) → list_any test ys ≡ list_any test xs

-- whether an input is the one before it
abbrev pub is_same : Option Input → Input → Bool
is_same None input = false
is_same (Some last) input = same_input last input

-- the inputs of a list, without each that is the same as the one before it
abbrev pub once_from : Option Input → List Input → List Input
once_from last [] = []
once_from last (input ∷ inputs) = if is_same last input then once_from (Some input) inputs else input ∷ once_from (Some input) inputs
