-- Gates in an order in which each stands behind those that it names.
use Rattle.std.specs.Prelude.{ℕ, ◌≡◌, ◌<◌, Bool, true, List, [], ◌∷◌, ◌++◌}
use Rattle.std.specs.List.{list_any, AllByRecursion}
use Rattle.round_gates.specs.declared.node.GateKey.{GateKey}
use Rattle.round_gates.specs.declared.node.Line.{Line}
use Rattle.round_gates.specs.declared.node.Node.{Node}
use Rattle.round_gates.specs.declared.node.Node.TheVariants.{Always, Never, Basic, Gate}
use Rattle.round_gates.specs.Nodes.{same_key}

-- whether a gate has a name
abbrev pub is_named : GateKey → Line → Bool
is_named key line = same_key line.key key

-- whether a gate of a list has a name
abbrev pub has_line : List Line → GateKey → Bool
has_line lines key = list_any (is_named key) lines

-- a node that is constant, one of so many events, or one of these gates
abbrev pub IsKnown : ℕ → List Line → Node → Type 0
IsKnown events lines Always = Unit {0}
IsKnown events lines Never = Unit {0}
IsKnown events lines (Basic n) = n < events
IsKnown events lines (Gate key) = has_line lines key ≡ true

-- a node that may be an input of a gate: one of so many events, or one of these gates
abbrev pub IsInput : ℕ → List Line → Node → Type 0
IsInput events lines Always = ⊥
IsInput events lines Never = ⊥
IsInput events lines (Basic n) = n < events
IsInput events lines (Gate key) = has_line lines key ≡ true

-- each gate has as inputs events and gates that stand before it
abbrev pub InOrder : ℕ → List Line → List Line → Type 0
InOrder events before [] = Unit {0}
InOrder events before (line ∷ lines) = AllByRecursion (IsInput events before) line.inputs × InOrder events (before ++ line ∷ []) lines
