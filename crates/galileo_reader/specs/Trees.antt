-- Trees of named nodes: which gates reach themselves, and what tree a text is of, or what is wrong with it.
use Rattle.std.specs.Prelude.{ℕ, ◌<◌, ◌≡◌, ◌⊎◌, Bool, true, if◌then◌else◌, List, slice_get, Some, None}
use Rattle.fault_system.specs.Truth.{NumberSet, Has}
use Rattle.round_gates.specs.Trees.{has_gate}
use Rattle.galileo_reader.specs.declared.statement.PlacedName.{PlacedName}
use Rattle.galileo_reader.specs.declared.statement.Statement.{Statement}
use Rattle.galileo_reader.specs.declared.tree.Flaw.{Flaw}
use Rattle.galileo_reader.specs.declared.tree.Flaw.TheVariants.{BadLine, DynamicGate, BadCount, DuplicateNode, NoTop, UnknownNode, Cyclic}
use Rattle.galileo_reader.specs.declared.tree.NamedGate.{NamedGate}
use Rattle.galileo_reader.specs.declared.tree.NamedTree.{NamedTree}
use Rattle.galileo_reader.specs.Nodes.{bad_count, place_of_gate, second_line, top_of, tree_of, unknown_node}
use Rattle.galileo_reader.specs.Statements.{AreLines, IsBadAt, is_dynamic_at}

-- ---- trees

-- with each gate a set of positions has those of its inputs
abbrev pub HasInputGates : List NamedGate → NumberSet → Type 0
HasInputGates gates set = (n m : ℕ) (gate : NamedGate) → Has set n → slice_get gates n ≡ Some gate → has_gate gate.inputs m ≡ true → Has set m

-- one gate leads to another: it is the same, or it can be gone to the other by "is an input of"
abbrev pub LeadsTo : List NamedGate → ℕ → ℕ → Type 0
LeadsTo gates from to = (set : NumberSet) → HasInputGates gates set → Has set from → Has set to

-- a gate reaches itself: one of its inputs leads to it
pub record ReachesItself (gates : List NamedGate) (n : ℕ) : Type 0 where
  pub gate : NamedGate
  pub at : slice_get gates n ≡ Some gate
  pub input : ℕ
  pub is_input : has_gate gate.inputs input ≡ true
  pub back : LeadsTo gates input n

-- no gate reaches itself
abbrev pub IsAcyclic : List NamedGate → Type 0
IsAcyclic gates = (n : ℕ) → ReachesItself gates n → ⊥

-- the first gate that reaches itself
pub record IsFirstCyclic (gates : List NamedGate) (n : ℕ) : Type 0 where
  pub reaches : ReachesItself gates n
  pub first : (m : ℕ) → m < n → ReachesItself gates m → ⊥

-- ---- texts

-- The tree of lines: each count of inputs is right, no line tells again of what an earlier one tells, there is a top, each name
-- that is asked for has a line, and no gate reaches itself.
pub record IsTreeOf (lines : List Statement) (tree : NamedTree) : Type 0 where
  pub counts : bad_count lines ≡ None
  pub once : second_line lines ≡ None
  pub top : PlacedName
  pub top_is : top_of lines ≡ Some top
  pub known : unknown_node lines ≡ None
  pub tree_is : tree ≡ tree_of lines top
  pub acyclic : IsAcyclic tree.gates

-- some gate of lines with this top reaches itself, and the line of the first such gate stands at a place
pub record HasCycleAt (lines : List Statement) (at : ℕ) : Type 0 where
  pub gate : ℕ
  pub top : PlacedName
  pub top_is : top_of lines ≡ Some top
  pub cyclic : IsFirstCyclic (tree_of lines top).gates gate
  pub at_is : at ≡ place_of_gate lines gate

-- what is wrong with lines, where nothing is that comes before it
abbrev pub AreFlawed : List Statement → Flaw → Type 0
AreFlawed lines (BadLine at) = ⊥
AreFlawed lines (DynamicGate at) = ⊥
AreFlawed lines (BadCount at) = bad_count lines ≡ Some at
AreFlawed lines (DuplicateNode at) = (bad_count lines ≡ None) × (second_line lines ≡ Some at)
AreFlawed lines NoTop = (bad_count lines ≡ None) × (second_line lines ≡ None) × (top_of lines ≡ None)
AreFlawed lines (UnknownNode at) = (bad_count lines ≡ None) × (second_line lines ≡ None) × ((top : PlacedName) × (top_of lines ≡ Some top)) × (unknown_node lines ≡ Some at)
AreFlawed lines (Cyclic at) = (bad_count lines ≡ None) × (second_line lines ≡ None) × (unknown_node lines ≡ None) × HasCycleAt lines at

-- The text is that of a tree, in the first reading or in the wide one.
abbrev pub IsRead : Bool → List ℕ → NamedTree → Type 0
IsRead wide text tree = (lines : List Statement) × AreLines wide text 0 lines × IsTreeOf lines tree

-- what is wrong where no line stands: a dynamic gate, or else that it has no reading
abbrev pub line_flaw : Bool → List ℕ → ℕ → Flaw
line_flaw wide text at = if is_dynamic_at wide text at then DynamicGate at else BadLine at

-- a line of the text has no reading, and this is what is wrong
abbrev pub HasBadLine : Bool → List ℕ → Flaw → Type 0
HasBadLine wide text flaw = (at : ℕ) × (lines : List Statement) × IsBadAt wide text 0 lines at × (flaw ≡ line_flaw wide text at)

-- What is wrong with a text: a line has no reading, or else something is wrong with its lines.
abbrev pub IsFlawed : Bool → List ℕ → Flaw → Type 0
IsFlawed wide text flaw = HasBadLine wide text flaw ⊎ ((lines : List Statement) × AreLines wide text 0 lines × AreFlawed lines flaw)
