-- The node of each place of a formula in a stage, and the gates of the stage.
use Rattle.std.specs.Prelude.{ℕ, ◌+◌, List, [], ◌∷◌, ◌++◌, map, filter, ◌||◌, not, if◌then◌else◌}
use Rattle.fault_system.specs.declared.formula.Formula.{Formula, fold-Formula}
use Rattle.fault_system.specs.declared.formula.Formula.TheOpen.{Formula-F, True, Event, Fact, And, Or, AtLeast}
use Rattle.round_gates.specs.declared.node.GateKey.{GateKey}
use Rattle.round_gates.specs.declared.node.GateKind.TheVariants as kinds
use Rattle.round_gates.specs.declared.node.Join.{Join}
use Rattle.round_gates.specs.declared.node.Join.TheVariants.{Plain, Made}
use Rattle.round_gates.specs.declared.node.Line.{Line}
use Rattle.round_gates.specs.declared.node.Node.{Node}
use Rattle.round_gates.specs.declared.node.Node.TheVariants.{Always, Never, Basic, Gate}
use Rattle.round_gates.specs.declared.node.Part.{Part}
use Rattle.round_gates.specs.declared.node.Stage.{Stage}
use Rattle.round_gates.specs.Nodes.{same_node, has_node, all_of, any_of, least_of}

-- the name of the gate at a place of a stage
abbrev pub key_at : Stage → ℕ → GateKey
key_at stage place = record { fact = stage.fact; stage = stage.stage; place = place }

-- what a formula gives from a place on: its node, the place behind its last one, and the gates at its places, each behind
-- the gates that it names
pub record Walked : Type 0 where
  pub node : Node
  pub next : ℕ
  pub lines : List Line

-- what the parts of a formula give from a place on, one after another
pub record Parts : Type 0 where
  pub parts : List Part
  pub next : ℕ
  pub lines : List Line

-- the parts in order, each from the place behind the one before
abbrev pub parts_of : List (ℕ → Walked) → ℕ → Parts
parts_of [] place = record { parts = []; next = place; lines = [] }
parts_of (walk ∷ walks) place =
    let first = walk place in
    let rest = parts_of walks first.next in
    record { parts = record { place = place; node = first.node } ∷ rest.parts; next = rest.next; lines = first.lines ++ rest.lines }

-- the nodes of parts
abbrev pub nodes_of : List Part → List Node
nodes_of parts = map (λ part. part.node) parts

-- the parts whose nodes are not constant
abbrev pub varying_parts : List Part → List Part
varying_parts parts = filter (λ part. not (same_node Always part.node || same_node Never part.node)) parts

-- the node that a rule gives at a place: a gate has the name of the place
abbrev pub node_at : Stage → ℕ → Join → Node
node_at stage place (Plain node) = node
node_at stage place (Made kind inputs) = Gate (key_at stage place)

-- the gate that a rule makes at a place, if it makes one
abbrev pub line_at : Stage → ℕ → Join → List Line
line_at stage place (Plain node) = []
line_at stage place (Made kind inputs) = record { key = key_at stage place; kind = kind; inputs = inputs } ∷ []

-- the nodes seen so far with one more
abbrev pub with_seen : List Node → Node → List Node
with_seen seen node = if has_node seen node then seen else seen ++ node ∷ []

-- the input for a part of a gate that counts its inputs: a node that is equal to an earlier one is the gate at its part's place
abbrev pub input_of : Stage → List Node → Part → Node
input_of stage seen part = if has_node seen part.node then Gate (key_at stage part.place) else part.node

-- the gate at the place of a part whose node is equal to an earlier one: an `or` of the one node
abbrev pub repeat_of : Stage → List Node → Part → List Line
repeat_of stage seen part =
    if has_node seen part.node then record { key = key_at stage part.place; kind = kinds.Or; inputs = part.node ∷ [] } ∷ [] else []

-- the inputs of a gate that counts them
abbrev pub wrapped : Stage → List Node → List Part → List Node
wrapped stage seen [] = []
wrapped stage seen (part ∷ parts) = input_of stage seen part ∷ wrapped stage (with_seen seen part.node) parts

-- the gates that stand for its repeated inputs
abbrev pub repeats : Stage → List Node → List Part → List Line
repeats stage seen [] = []
repeats stage seen (part ∷ parts) = repeat_of stage seen part ++ repeats stage (with_seen seen part.node) parts

-- the gates that the rule of a formula that counts its parts makes at its place and at those of repeated parts
abbrev pub counted_lines : Stage → ℕ → List Part → Join → List Line
counted_lines stage place parts (Plain node) = []
counted_lines stage place parts (Made (kinds.AtLeast k) inputs) =
    repeats stage [] (varying_parts parts)
    ++ record { key = key_at stage place; kind = kinds.AtLeast k; inputs = wrapped stage [] (varying_parts parts) } ∷ []
counted_lines stage place parts (Made kinds.And inputs) = line_at stage place (Made kinds.And inputs)
counted_lines stage place parts (Made kinds.Or inputs) = line_at stage place (Made kinds.Or inputs)

-- one formula from a place on, with what each part gives in its place
abbrev pub walk_step : Stage → (ℕ → Node) → Formula-F (ℕ → Walked) → ℕ → Walked
walk_step stage look True place = record { node = Always; next = place + 1; lines = [] }
walk_step stage look (Event n) place = record { node = Basic n; next = place + 1; lines = [] }
walk_step stage look (Fact n) place = record { node = look n; next = place + 1; lines = [] }
walk_step stage look (And walks) place =
    let parts = parts_of walks (place + 1) in
    let join = all_of (nodes_of parts.parts) in
    record { node = node_at stage place join; next = parts.next; lines = parts.lines ++ line_at stage place join }
walk_step stage look (Or walks) place =
    let parts = parts_of walks (place + 1) in
    let join = any_of (nodes_of parts.parts) in
    record { node = node_at stage place join; next = parts.next; lines = parts.lines ++ line_at stage place join }
walk_step stage look (AtLeast k walks) place =
    let parts = parts_of walks (place + 1) in
    let join = least_of k (nodes_of parts.parts) in
    record { node = node_at stage place join; next = parts.next; lines = parts.lines ++ counted_lines stage place parts.parts join }

-- what a formula gives in a stage from a place on, where `look` has the node for which each fact stands
abbrev pub walk : Stage → (ℕ → Node) → Formula → ℕ → Walked
walk stage look = fold-Formula (ℕ → Walked) (walk_step stage look)

-- how many places parts have together
abbrev pub total : List ℕ → ℕ
total [] = 0
total (n ∷ ns) = n + total ns

-- one formula, with the number of places of each part in its place
abbrev pub places_step : Formula-F ℕ → ℕ
places_step True = 1
places_step (Event n) = 1
places_step (Fact n) = 1
places_step (And parts) = total parts + 1
places_step (Or parts) = total parts + 1
places_step (AtLeast k parts) = total parts + 1

-- how many places a formula has
abbrev pub places : Formula → ℕ
places = fold-Formula ℕ places_step
