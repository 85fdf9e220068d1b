-- Nodes, and the rules by which the nodes of parts become a node or a gate.
use Rattle.std.specs.Prelude.{ℕ, ◌+◌, ◌-◌, Bool, true, false, List, [], ◌∷◌, ◌++◌, length, filter, nat_lt, ◌==◌, ◌&&◌, not, if◌then◌else◌}
use Rattle.std.specs.List.{list_any}
use Rattle.round_gates.specs.declared.node.GateKey.{GateKey}
use Rattle.round_gates.specs.declared.node.GateKind.{GateKind}
use Rattle.round_gates.specs.declared.node.GateKind.TheVariants.{And, Or, AtLeast}
use Rattle.round_gates.specs.declared.node.Join.{Join}
use Rattle.round_gates.specs.declared.node.Join.TheVariants.{Plain, Made}
use Rattle.round_gates.specs.declared.node.Node.{Node}
use Rattle.round_gates.specs.declared.node.Node.TheVariants.{Always, Never, Basic, Gate}

-- whether two names of gates are the same
abbrev pub same_key : GateKey → GateKey → Bool
same_key a b = (a.fact == b.fact) && ((a.stage == b.stage) && (a.place == b.place))

-- whether two nodes are the same
abbrev pub same_node : Node → Node → Bool
same_node Always Always = true
same_node Never Never = true
same_node (Basic m) (Basic n) = m == n
same_node (Gate a) (Gate b) = same_key a b
same_node _ _ = false

-- whether a node is one of a list
abbrev pub has_node : List Node → Node → Bool
has_node nodes node = list_any (λ other. same_node node other) nodes

-- the nodes of a list without one of them
abbrev pub without : Node → List Node → List Node
without node nodes = filter (λ other. not (same_node node other)) nodes

-- the nodes of a list, each once, that are not yet seen
abbrev pub new_ones : List Node → List Node → List Node
new_ones seen [] = []
new_ones seen (node ∷ nodes) = if has_node seen node then new_ones seen nodes else node ∷ new_ones (seen ++ node ∷ []) nodes

-- the nodes of a list, each once: a node that is equal to an earlier one goes
abbrev pub each_once : List Node → List Node
each_once nodes = new_ones [] nodes

-- with no node left it is the constant, with one it is that node, with more a gate of this kind
abbrev pub gathered : GateKind → Node → List Node → Join
gathered kind none [] = Plain none
gathered kind none (node ∷ []) = Plain node
gathered kind none (first ∷ second ∷ nodes) = Made kind (first ∷ second ∷ nodes)

-- `And`: true nodes go, and so does each node that is equal to an earlier one; a false node makes it false
abbrev pub all_of : List Node → Join
all_of nodes = if has_node nodes Never then Plain Never else gathered And Always (each_once (without Always nodes))

-- `Or`: false nodes go, and so does each node that is equal to an earlier one; a true node makes it true
abbrev pub any_of : List Node → Join
any_of nodes = if has_node nodes Always then Plain Always else gathered Or Never (each_once (without Never nodes))

-- how many nodes of a list are true
abbrev pub always_in : List Node → ℕ
always_in [] = 0
always_in (node ∷ nodes) = if same_node Always node then always_in nodes + 1 else always_in nodes

-- the nodes of a list that are not constant
abbrev pub varying : List Node → List Node
varying nodes = without Never (without Always nodes)

-- at least k of some nodes that are not constant
abbrev pub least_left : ℕ → List Node → Join
least_left k nodes =
    if k == 0 then Plain Always
    else (if nat_lt (length nodes) k then Plain Never
    else (if k == 1 then any_of nodes
    else (if k == length nodes then all_of nodes
    else Made (AtLeast k) nodes)))

-- `AtLeast`: false nodes go, and each true node goes and lowers k by one, not below 0; equal nodes stay
abbrev pub least_of : ℕ → List Node → Join
least_of k nodes = least_left (k - always_in nodes) (varying nodes)
