-- The gates that are reached from one of them, by their names.
use Rattle.std.specs.Prelude.{ℕ, ◌+◌, ◌<◌, ◌≤◌, ◌≡◌, Bool, true, false, ◌||◌, ◌&&◌, ◌==◌, List, [], ◌∷◌, Option, Some, None, if◌then◌else◌}
use Rattle.std.specs.List.{list_any}
use Rattle.round_gates.specs.declared.node.GateKey.{GateKey}
use Rattle.round_gates.specs.declared.node.Line.{Line}
use Rattle.round_gates.specs.declared.node.Node.TheVariants.{Gate}
use Rattle.round_gates.specs.Nodes.{same_key, has_node}
use Rattle.round_gates.specs.inner.Lines.{is_named}
use Rattle.round_gates.specs.inner.Truths.{GateSet}

-- whether a name is one of a list
abbrev pub has_key : List GateKey → GateKey → Bool
has_key keys key = list_any (λ other. same_key key other) keys

-- the place of the first gate of a name in a list, counted from a number
abbrev pub place_from : ℕ → List Line → GateKey → Option ℕ
place_from place [] key = None
place_from place (line ∷ lines) key = if is_named key line then Some place else place_from (place + 1) lines key

-- the first that is there of two
abbrev pub first_some : Option ℕ → Option ℕ → Option ℕ
first_some (Some n) other = Some n
first_some None other = other

-- the place that a gate has under its name, and none under another
abbrev pub place_if : GateKey → ℕ → GateKey → Option ℕ
place_if own place key = if same_key own key then Some place else None

-- the first gate of a name
abbrev pub first_line : List Line → GateKey → Option Line
first_line [] key = None
first_line (line ∷ lines) key = if is_named key line then Some line else first_line lines key

-- with each gate a set has all gates that are its inputs
abbrev pub HasInputs : List Line → GateSet → Type 0
HasInputs lines set =
    (key next : GateKey) (line : Line) → set key ≡ true → first_line lines key ≡ Some line → has_node line.inputs (Gate next) ≡ true → set next ≡ true

-- a gate is reached from another: each set that has the one and, with each gate, its inputs, has the other
abbrev pub IsReached : List Line → GateKey → GateKey → Type 0
IsReached lines top key = (set : GateSet) → HasInputs lines set → set top ≡ true → set key ≡ true

-- Of the gates that are reached from one, those so far; the inputs of a gate at a place from `next` on are there if it is.
pub record AreReachedFrom (lines : List Line) (top : GateKey) (next : ℕ) (keys : List GateKey) : Type 0 where
  pub top_in : has_key keys top ≡ true
  pub right : (key : GateKey) → has_key keys key ≡ true → IsReached lines top key
  pub done : (key other : GateKey) (place : ℕ) (line : Line) → has_key keys key ≡ true → place_from 0 lines key ≡ Some place → next ≤ place → first_line lines key ≡ Some line → has_node line.inputs (Gate other) ≡ true → has_key keys other ≡ true

-- exactly the gates that are reached from one
pub record AreReached (lines : List Line) (top : GateKey) (keys : List GateKey) : Type 0 where
  pub right : (key : GateKey) → has_key keys key ≡ true → IsReached lines top key
  pub all : (key : GateKey) → IsReached lines top key → has_key keys key ≡ true

-- the gates that are inputs of a gate have places before it
abbrev pub AreBehind : List Line → Type 0
AreBehind lines =
    (key other : GateKey) (place : ℕ) (line : Line) → place_from 0 lines key ≡ Some place → first_line lines key ≡ Some line → has_node line.inputs (Gate other) ≡ true
    → (before : ℕ) × (place_from 0 lines other ≡ Some before) × (before < place)

-- whether a place is the one that was found
abbrev pub is_place : Option ℕ → ℕ → Bool
is_place None place = false
is_place (Some found) place = found == place

-- the names with those that are inputs of a gate, where it is the first of its name and its name is among them
abbrev pub IsVisited : Bool → Line → List GateKey → List GateKey → Type 0
IsVisited first line old new =
    (key : GateKey) → has_key new key ≡ has_key old key || ((first && has_key old line.key) && has_node line.inputs (Gate key))
