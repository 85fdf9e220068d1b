-- The merged tree of a tree: which gates stay, and that nothing is left to merge.
use Rattle.std.specs.Prelude.{ℕ, ◌≡◌, ◌≢◌, ◌<◌, ◌⊎◌, Bool, true, false, List, [], ◌∷◌, length, nat_lt, ◌==◌, slice_get, Some}
use Rattle.std.specs.List.{AllByRecursion, list_any}
use Rattle.round_gates.specs.declared.node.GateKind.{GateKind}
use Rattle.round_gates.specs.declared.node.GateKind.TheVariants.{And, Or, AtLeast}
use Rattle.round_gates.specs.declared.tree.Gate.{Gate}
use Rattle.round_gates.specs.declared.tree.Input.{Input}
use Rattle.round_gates.specs.declared.tree.Input.TheVariants as inputs
use Rattle.round_gates.specs.declared.tree.Tree.{Tree}
use Rattle.round_gates.specs.Trees.{key_of, has_gate, LeadsTo}

-- whether a gate of one kind may be joined to a gate of another: both are `and`, or both are `or`
abbrev pub joins : GateKind → GateKind → Bool
joins And And = true
joins Or Or = true
joins _ _ = false

-- whether a gate counts how many of its inputs are true
abbrev pub counts : GateKind → Bool
counts (AtLeast k) = true
counts _ = false

-- whether two inputs are the same
abbrev pub same_input : Input → Input → Bool
same_input (inputs.Event m) (inputs.Event n) = m == n
same_input (inputs.Gate m) (inputs.Gate n) = m == n
same_input _ _ = false

-- whether an input is one of a list
abbrev pub has_input : List Input → Input → Bool
has_input list input = list_any (λ other. same_input other input) list

-- one input comes before another: an event before a gate, else by number
abbrev pub comes_before : Input → Input → Bool
comes_before (inputs.Event m) (inputs.Event n) = nat_lt m n
comes_before (inputs.Event m) (inputs.Gate n) = true
comes_before (inputs.Gate m) (inputs.Event n) = false
comes_before (inputs.Gate m) (inputs.Gate n) = nat_lt m n

-- each input comes before all that follow, so that a set of inputs has one list
abbrev pub InputsRise : List Input → Type 0
InputsRise [] = Unit {0}
InputsRise (input ∷ inputs) = AllByRecursion (λ other. comes_before input other ≡ true) inputs × InputsRise inputs

-- the gate at one position has the gate at another as an input
pub record HasInput (gates : List Gate) (n m : ℕ) : Type 0 where
  pub gate : Gate
  pub at : slice_get gates n ≡ Some gate
  pub has : has_gate gate.inputs m ≡ true

-- a gate is an input of another gate than this
pub record HasOtherParent (gates : List Gate) (n m : ℕ) : Type 0 where
  pub other : ℕ
  pub differs : other ≢ n
  pub has : HasInput gates other m

-- a gate with this one input is counted beside it: a gate that counts has both as inputs
pub record IsCountedTwice (gates : List Gate) (n : ℕ) (input : Input) : Type 0 where
  pub place : ℕ
  pub gate : Gate
  pub at : slice_get gates place ≡ Some gate
  pub counting : counts gate.kind ≡ true
  pub has : has_gate gate.inputs n ≡ true
  pub beside : has_input gate.inputs input ≡ true

-- where a gate may have one input: at the top, over an event, or where it is counted beside its input
abbrev pub MayHaveOne : Tree → ℕ → Input → Type 0
MayHaveOne tree n (inputs.Event m) = (n ≡ tree.top) ⊎ IsCountedTwice tree.gates n (inputs.Event m)
MayHaveOne tree n (inputs.Gate m) = IsCountedTwice tree.gates n (inputs.Gate m)

-- Nothing is left to merge: inputs rise, no two gates have one kind and the same inputs, no gate has one input but where it
-- must, and a gate that could be joined to one that has it as an input has another parent too.
pub record IsSettled (tree : Tree) : Type 0 where
  pub rise : (n : ℕ) (gate : Gate) → slice_get tree.gates n ≡ Some gate → InputsRise gate.inputs
  pub differ : (n m : ℕ) (a b : Gate) → slice_get tree.gates n ≡ Some a → slice_get tree.gates m ≡ Some b → a.kind ≡ b.kind → a.inputs ≡ b.inputs → n ≡ m
  pub one : (n : ℕ) (gate : Gate) (input : Input) → slice_get tree.gates n ≡ Some gate → gate.inputs ≡ input ∷ [] → MayHaveOne tree n input
  pub joined : (n m : ℕ) (gate inner : Gate) → slice_get tree.gates n ≡ Some gate → slice_get tree.gates m ≡ Some inner → has_gate gate.inputs m ≡ true → joins gate.kind inner.kind ≡ true → HasOtherParent tree.gates n m

-- a gate has the kind of another, or it is an `or` of one input
abbrev pub HasKindOf : Gate → Gate → Type 0
HasKindOf gate written = (gate.kind ≡ written.kind) ⊎ ((gate.kind ≡ Or) × (length gate.inputs ≡ 1))

-- A gate of a merged tree is a gate of the written tree: it has its name and its kind.
pub record Stays (written : Tree) (gate : Gate) : Type 0 where
  pub place : ℕ
  pub source : Gate
  pub at : slice_get written.gates place ≡ Some source
  pub key : key_of gate ≡ key_of source
  pub kind : HasKindOf gate source

-- all gates of a tree are reached from its top
abbrev pub IsReached : Tree → Type 0
IsReached tree = (n : ℕ) → n < length tree.gates → LeadsTo tree.gates tree.top n

-- The gates of a tree are merged: each is one of the written tree, all are reached from the top, and nothing is left to merge.
pub record IsMerged (written merged : Tree) : Type 0 where
  pub stay : AllByRecursion (Stays written) merged.gates
  pub reached : IsReached merged
  pub settled : IsSettled merged
