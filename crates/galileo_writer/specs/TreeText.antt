-- The Galileo text of a tree.
use Rattle.std.specs.Prelude.{ℕ, suc, false, ◌||◌, ◌&&◌, List, [], ◌∷◌, ◌++◌, map, codes, decimal, unwrap_or, slice_get, slice_index_or}
use Rattle.std.specs.Option.{option_map}
use Rattle.plain_values.specs.Name.{is_same_text}
use Rattle.fault_system.specs.Truth.{NumberSet}
use Rattle.fault_system.specs.Systems.{System, event_name, fact_name}
use Rattle.property_reader.specs.Rates.{conservative_rate}
use Rattle.property_reader.specs.declared.rate.Rate.{Rate}
use Rattle.round_gates.specs.declared.tree.Gate.{Gate}
use Rattle.round_gates.specs.declared.tree.Input.{Input}
use Rattle.round_gates.specs.declared.tree.Input.TheVariants as inputs
use Rattle.round_gates.specs.declared.tree.Tree.{Tree}
use Rattle.galileo_writer.specs.Galileo.{Line, GateLine, EventLine, Galileo, galileo_text}
use Rattle.galileo_writer.specs.Truth.{NameSet}

-- the name of a gate: its fact, `@`, its stage, `.` and its place
abbrev pub gate_name : System → Gate → List ℕ
gate_name system gate = fact_name system gate.fact ++ (codes "@" ++ (decimal gate.stage ++ (codes "." ++ decimal gate.place)))

-- the name of the gate at a position
abbrev pub name_at : System → List Gate → ℕ → List ℕ
name_at system gates number = unwrap_or (option_map (gate_name system) (slice_get gates number)) []

-- the name of an input
abbrev pub input_name : System → List Gate → Input → List ℕ
input_name system gates (inputs.Event number) = event_name system number
input_name system gates (inputs.Gate number) = name_at system gates number

-- the line of a gate
abbrev pub gate_line : System → List Gate → Gate → Line
gate_line system gates gate = GateLine (gate_name system gate) gate.kind (map (input_name system gates) gate.inputs)

-- the rate of an event
abbrev pub rate_of : List Rate → ℕ → Rate
rate_of rates number = slice_index_or rates number conservative_rate

-- the line of an event
abbrev pub event_line : System → List Rate → ℕ → Line
event_line system rates number = EventLine (event_name system number) (rate_of rates number)

-- a tree as a text: its gates in order, and then its events by number
abbrev pub tree_galileo : System → Tree → List Rate → Galileo
tree_galileo system tree rates =
    record {
      top = name_at system tree.gates tree.top;
      lines = map (gate_line system tree.gates) tree.gates ++ map (event_line system rates) tree.events;
    }

-- the bytes of the text of a tree
abbrev pub tree_text : System → Tree → List Rate → List ℕ
tree_text system tree rates = galileo_text (tree_galileo system tree rates)

-- ---- sets of events by their names

-- whether a name is that of an item of a set, of items that are numbered from 0 on
abbrev pub has_name : {X : Type 0} → (X → List ℕ) → List X → NumberSet → NameSet
has_name named [] set name = false
has_name named (item ∷ items) set name = (set 0 && is_same_text (named item) name) || has_name named items (λ n. set (suc n)) name

-- the names of a set of events
abbrev pub names_of : System → NumberSet → NameSet
names_of system set = has_name (λ event. event.name) system.events set
