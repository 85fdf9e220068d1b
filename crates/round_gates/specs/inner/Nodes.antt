-- Beside specs/Nodes.antt: what no clause of `run` reaches.
use Rattle.std.specs.Prelude.{List, [], ◌∷◌, ◌++◌, if◌then◌else◌}
use Rattle.round_gates.specs.declared.node.Node.{Node}
use Rattle.round_gates.specs.Nodes.{same_node, has_node}

-- the nodes so far with one more, unless it is among them or is one that goes
abbrev pub kept_key : List Node → Node → Node → List Node
kept_key seen node dropped = if same_node dropped node then seen else (if has_node seen node then seen else seen ++ node ∷ [])
