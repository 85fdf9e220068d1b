-- Beside specs/TreeMef.antt: what is asked of a tree, and what is left of a text.
use Rattle.std.specs.Prelude.{ℕ, ◌==◌, suc, if◌then◌else◌, List, [], ◌∷◌, ◌++◌, map, ◌<◌, ◌≡◌, ◌≢◌, ◌^◌, true, drop, length, AllPairs, Contains}
use Rattle.std.specs.List.{AllByRecursion, flat_map, list_any}
use Rattle.fault_system.specs.Systems.{System}
use Rattle.property_reader.specs.declared.rate.Rate.{Rate}
use Rattle.round_gates.specs.declared.node.GateKind.{GateKind}
use Rattle.round_gates.specs.declared.tree.Gate.{Gate}
use Rattle.round_gates.specs.declared.tree.Tree.{Tree}
use Rattle.round_gates.specs.Trees.{is_event}
use Rattle.round_gates.specs.inner.Targets.{IsWithin, MayHave}
use Rattle.galileo_writer.specs.TreeText.{gate_name}
use Rattle.open_psa_writer.specs.Mef.{MefInput, end_text, event_text, gate_text, head_text, middle_text}
use Rattle.open_psa_writer.specs.TreeMef.{gate_number, gate_parts, gates_from, mef_event, mef_gate, numbered, top_gate}
use Rattle.open_psa_writer.specs.declared.tree_lines.Place.{Place}
use Rattle.open_psa_writer.specs.declared.tree_lines.Place.TheVariants.{Start, Gates, Events, End}

-- ---- what is asked of a tree

-- a gate whose inputs are events of the system and gates of the tree, as many as its kind may have
pub record IsMefGate (system : System) (gates : ℕ) (gate : Gate) : Type 0 where
  pub inputs : AllByRecursion (IsWithin (length system.events) gates) gate.inputs
  pub count : MayHave gate.kind (length gate.inputs)
  pub few : length gate.inputs < 2 ^ 32

-- each event that is an input of a gate is one of the tree's
abbrev pub HasInputEvents : Tree → Gate → Type 0
HasInputEvents tree gate = (event : ℕ) → list_any (is_event event) gate.inputs ≡ true → Contains tree.events event

-- A tree that may be written: its top is one of its gates, and its events are events of the system, among them each that is an input.
pub record IsMefTree (system : System) (tree : Tree) : Type 0 where
  pub top_in : tree.top < length tree.gates
  pub gates : AllByRecursion (IsMefGate system (length tree.gates)) tree.gates
  pub events_in : AllByRecursion (λ event. event < length system.events) tree.events
  pub events_differ : AllPairs (λ a b. a ≢ b) tree.events
  pub has_events : AllByRecursion (HasInputEvents tree) tree.gates

-- ---- what a text tells of the gates of its tree

-- a gate at a position
pub record PlacedGate : Type 0 where
  pub at : ℕ
  pub gate : Gate

-- the gates from a position on, but for the top
abbrev pub placed_from : ℕ → ℕ → List Gate → List PlacedGate
placed_from top at [] = []
placed_from top at (gate ∷ gates) = if at == top then placed_from top (suc at) gates else record { at = at; gate = gate } ∷ placed_from top (suc at) gates

-- the gates in the order of the text: the top, and then the others
abbrev pub placed_gates : Tree → List PlacedGate
placed_gates tree = record { at = tree.top; gate = top_gate tree } ∷ placed_from tree.top 0 tree.gates

-- a gate as the tree has it, however it is written: its number in the text, its name, its kind, and its inputs by their numbers
pub record NumberedGate : Type 0 where
  pub number : ℕ
  pub label : List ℕ
  pub kind : GateKind
  pub inputs : List MefInput

abbrev pub numbered_gate : System → ℕ → PlacedGate → NumberedGate
numbered_gate system top placed =
    record {
      number = gate_number top placed.at;
      label = gate_name system placed.gate;
      kind = placed.gate.kind;
      inputs = map (numbered top) placed.gate.inputs;
    }

-- all gates of a tree so
abbrev pub numbered_gates : System → Tree → List NumberedGate
numbered_gates system tree = map (numbered_gate system tree.top) (placed_gates tree)

-- ---- what is left of a text

-- a position, or the next one where that is the top's
abbrev pub past_top : ℕ → ℕ → ℕ
past_top top at = if at == top then suc at else at

-- the gate at a position, and its auxiliary gates
abbrev pub group_text : System → ℕ → ℕ → Gate → List ℕ
group_text system top at gate = gate_text (mef_gate system top at gate) ++ flat_map gate_text (gate_parts top at gate)

-- the gates from a position on, but for the top
abbrev pub others_text : System → Tree → ℕ → List ℕ
others_text system tree at = flat_map gate_text (gates_from system tree.top at (drop at tree.gates))

-- the basic events of some events, from a position on
abbrev pub events_text : System → List Rate → List ℕ → ℕ → List ℕ
events_text system rates events at = flat_map event_text (map (mef_event system rates) (drop at events))

-- what is left of the text of a tree, from a place on
abbrev pub text_left : System → Tree → List Rate → Place → List ℕ
text_left system tree rates Start =
    head_text ++ (group_text system tree.top tree.top (top_gate tree)
    ++ (others_text system tree 0 ++ (middle_text ++ (events_text system rates tree.events 0 ++ end_text))))
text_left system tree rates (Gates at) = others_text system tree at ++ (middle_text ++ (events_text system rates tree.events 0 ++ end_text))
text_left system tree rates (Events at) = events_text system rates tree.events at ++ end_text
text_left system tree rates End = []
