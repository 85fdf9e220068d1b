-- Gates that have an input in their own block.
use Rattle.std.specs.Prelude.{ℕ, ◌<◌, ◌≡◌, Bool, true, false, ◌==◌, List, slice_get, Some}
use Rattle.std.specs.List.{list_any}
use Rattle.dependency_blocks.specs.Blocks.{BlockNumbers, number_of}
use Rattle.round_gates.specs.declared.tree.Input.{Input}
use Rattle.round_gates.specs.declared.tree.Input.TheVariants as inputs
use Rattle.galileo_reader.specs.declared.tree.NamedGate.{NamedGate}

-- whether an input is a gate in one block with a gate
abbrev pub is_with : BlockNumbers → ℕ → Input → Bool
is_with numbers n (inputs.Event m) = false
is_with numbers n (inputs.Gate m) = number_of numbers m == number_of numbers n

-- whether a gate has such an input
abbrev pub has_own : BlockNumbers → ℕ → List Input → Bool
has_own numbers n ins = list_any (is_with numbers n) ins

-- the gate at a position has such an input
abbrev pub HasOwn : BlockNumbers → List NamedGate → ℕ → Type 0
HasOwn numbers gates n = (gate : NamedGate) × (slice_get gates n ≡ Some gate) × (has_own numbers n gate.inputs ≡ true)

-- no gate before a position has such an input
abbrev pub NoneHasOwn : BlockNumbers → List NamedGate → ℕ → Type 0
NoneHasOwn numbers gates bound = (n : ℕ) (gate : NamedGate) → n < bound → slice_get gates n ≡ Some gate → has_own numbers n gate.inputs ≡ false
