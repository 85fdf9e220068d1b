-- Beside specs/Walks.antt: what no clause of `run` reaches.
use Rattle.std.specs.Prelude.{ℕ, ◌≡◌, List, ◌++◌, slice_index_or}
use Rattle.round_gates.specs.declared.node.Line.{Line}
use Rattle.round_gates.specs.declared.node.Node.{Node}
use Rattle.round_gates.specs.declared.node.Node.TheVariants.{Never}
use Rattle.round_gates.specs.declared.node.Part.{Part}
use Rattle.round_gates.specs.Walks.{Walked, Parts}

-- the nodes for which facts stand, of a list by number
abbrev pub node_in : List Node → ℕ → Node
node_in nodes fact = slice_index_or nodes fact Never

-- what the code of a walk answers: the node and the next place, and the lines behind those that were there
pub record IsWalked (walked : Walked) (node : Node) (next : ℕ) (before after : List Line) : Type 0 where
  pub node_is : node ≡ walked.node
  pub next_is : next ≡ walked.next
  pub lines_are : after ≡ before ++ walked.lines

-- the same of the parts of a formula
pub record ArePartsOf (all : Parts) (parts : List Part) (next : ℕ) (before after : List Line) : Type 0 where
  pub parts_are : parts ≡ all.parts
  pub next_is : next ≡ all.next
  pub lines_are : after ≡ before ++ all.lines
