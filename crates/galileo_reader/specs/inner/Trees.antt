-- Beside specs/Trees.antt: what no clause of `run` reaches.
use Rattle.std.specs.Prelude.{ℕ, ◌≡◌, Bool, List, ◌++◌, length, map}
use Rattle.std.specs.List.{AllByRecursion}
use Rattle.fault_system.specs.Systems.{NamesDiffer}
use Rattle.round_gates.specs.inner.Targets.{IsWithin}
use Rattle.galileo_reader.specs.declared.statement.Statement.{Statement}
use Rattle.galileo_reader.specs.declared.tree.Flaw.TheVariants.{Cyclic}
use Rattle.galileo_reader.specs.declared.tree.GalileoFault.{GalileoFault}
use Rattle.galileo_reader.specs.declared.tree.GalileoFault.TheVariants.{Refused, Memory}
use Rattle.galileo_reader.specs.declared.tree.NamedGate.{NamedGate}
use Rattle.galileo_reader.specs.declared.tree.NamedTree.{NamedTree}
use Rattle.galileo_reader.specs.Nodes.{place_of_gate}
use Rattle.galileo_reader.specs.Trees.{IsFirstCyclic, AreFlawed, IsFlawed}

-- ---- trees

-- the inputs of a gate are among so many events and so many gates
abbrev pub HasInputs : ℕ → ℕ → NamedGate → Type 0
HasInputs events gates gate = AllByRecursion (IsWithin events gates) gate.inputs

-- the names of the nodes of a tree: those of its gates, and then those of its events
abbrev pub node_names : NamedTree → List (List ℕ)
node_names tree = map (λ gate. gate.name) tree.gates ++ map (λ event. event.name) tree.events

-- A tree: its top and its inputs are among its nodes, no two of which have one name.
pub record IsNamedTree (tree : NamedTree) : Type 0 where
  pub top_in : IsWithin (length tree.events) (length tree.gates) tree.top
  pub inputs_in : AllByRecursion (HasInputs (length tree.events) (length tree.gates)) tree.gates
  pub names_differ : NamesDiffer (node_names tree)

-- ---- texts

-- why the gates of a tree of lines are refused: the first that reaches itself; want of memory says nothing
abbrev pub IsCyclicIn : List Statement → NamedTree → GalileoFault → Type 0
IsCyclicIn lines tree (Refused (Cyclic at)) = (n : ℕ) × IsFirstCyclic tree.gates n × (at ≡ place_of_gate lines n)
IsCyclicIn lines tree (Refused _) = ⊥
IsCyclicIn lines tree Memory = Unit {0}

-- why lines have no tree; want of memory says nothing
abbrev pub HaveNoTree : List Statement → GalileoFault → Type 0
HaveNoTree lines (Refused flaw) = AreFlawed lines flaw
HaveNoTree lines Memory = Unit {0}

-- why a text has no tree; want of memory says nothing
abbrev pub HasNoTree : Bool → List ℕ → GalileoFault → Type 0
HasNoTree wide text (Refused flaw) = IsFlawed wide text flaw
HasNoTree wide text Memory = Unit {0}
