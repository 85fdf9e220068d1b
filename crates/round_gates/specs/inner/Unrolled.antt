-- The stages of all blocks, one after another, from the lowest block on.
use Rattle.std.specs.Prelude.{ℕ, ◌<◌, ◌≡◌, ◌^◌, List, [], ◌∷◌, length, All, filter, Contains, ◌==◌, if◌then◌else◌}
use Rattle.std.specs.List.{AllByRecursion}
use Rattle.fault_system.specs.Systems.{System, IsFact}
use Rattle.fault_system.specs.declared.formula.FactInfo.{FactInfo}
use Rattle.dependency_blocks.specs.Blocks.{BlockNumbers, IsBlocks}
use Rattle.round_gates.specs.declared.node.Line.{Line}
use Rattle.round_gates.specs.declared.node.Node.{Node}
use Rattle.round_gates.specs.declared.node.Part.{Part}
use Rattle.round_gates.specs.declared.node.Stage.{Stage}
use Rattle.round_gates.specs.declared.unrolling.Sliced.{Sliced}
use Rattle.round_gates.specs.Walks.{places}
use Rattle.round_gates.specs.inner.Walks.{node_in}
use Rattle.round_gates.specs.Stages.{in_block, fact_walk, last_node, low_nodes, IsGateOf}
use Rattle.round_gates.specs.inner.Lines.{IsKnown, InOrder}

-- the formula of a fact has fewer than 2 ^ 32 places
abbrev pub IsSmall : System → ℕ → Type 0
IsSmall system fact = (info : FactInfo) → IsFact system fact info → places info.formula < 2 ^ 32

-- the facts of a block, of those of a slice
abbrev pub members_of : BlockNumbers → ℕ → List ℕ → List ℕ
members_of numbers block facts = filter (in_block numbers block) facts

-- a stage of a fact
abbrev pub stage_at : ℕ → ℕ → Stage
stage_at stage fact = record { fact = fact; stage = stage }

-- a fact with its node in a stage
abbrev pub found_in : System → (ℕ → Node) → ℕ → ℕ → Part
found_in system look stage fact = record { place = fact; node = (fact_walk system look (stage_at stage fact)).node }

-- the gates of a fact in a stage
abbrev pub lines_in : System → (ℕ → Node) → ℕ → ℕ → List Line
lines_in system look stage fact = (fact_walk system look (stage_at stage fact)).lines

-- nodes by number after each of these facts got its node
abbrev pub written : List Part → (ℕ → Node) → ℕ → Node
written [] look fact = look fact
written (part ∷ parts) look fact = written parts (λ other. if part.place == other then part.node else look other) fact

-- The nodes of all facts are those of a stage, and the gates so far are gates of stages, in order, with all that the nodes name.
pub record AreUnrolled (system : System) (numbers : BlockNumbers) (now : ℕ → Node) (nodes : List Node) (lines : List Line) : Type 0 where
  pub long : length nodes ≡ length system.facts
  pub nodes_are : (fact : ℕ) → node_in nodes fact ≡ now fact
  pub gates : AllByRecursion (IsGateOf system numbers) lines
  pub ordered : InOrder (length system.events) [] lines
  pub known : (fact : ℕ) → IsKnown (length system.events) lines (node_in nodes fact)

-- a slice of a system with its blocks, whose facts are facts of the system with small formulas
pub record IsSliced (sliced : Sliced) : Type 0 where
  pub blocks : IsBlocks sliced.system.now sliced.slice.now.facts sliced.blocks.now
  pub small : All (IsSmall sliced.system.now) sliced.slice.now.facts
  pub inside : All (λ fact. fact < length sliced.system.now.facts) sliced.slice.now.facts

-- the facts of one of its blocks
abbrev pub members_in : Sliced → ℕ → List ℕ
members_in sliced block = members_of sliced.blocks.now block sliced.slice.now.facts

-- the blocks below a number are unrolled
abbrev pub AreUnrolledBelow : Sliced → ℕ → List Node → List Line → Type 0
AreUnrolledBelow sliced block = AreUnrolled sliced.system.now sliced.blocks.now (low_nodes sliced.system.now sliced.blocks.now block)

-- the last nodes of the facts of a slice, and the gates of their stages
pub record IsUnrolling (system : System) (facts : List ℕ) (numbers : BlockNumbers) (nodes : List Node) (lines : List Line) : Type 0 where
  pub last : (fact : ℕ) → Contains facts fact → node_in nodes fact ≡ last_node system numbers fact
  pub gates : AllByRecursion (IsGateOf system numbers) lines
  pub ordered : InOrder (length system.events) [] lines
  pub known : (fact : ℕ) → IsKnown (length system.events) lines (node_in nodes fact)
