-- The text of a tree in the Open-PSA Model Exchange Format.
use Rattle.std.specs.Prelude.{ℕ, ◌+◌, ◌-◌, ◌*◌, suc, Bool, true, false, ◌&&◌, ◌==◌, nat_le, nat_lt, if◌then◌else◌, List, [], ◌∷◌, ◌++◌, length, map, slice_index_or}
use Rattle.std.specs.List.{flat_map, list_any, range_with_len}
use Rattle.fault_system.specs.Systems.{System, event_name}
use Rattle.property_reader.specs.declared.rate.Rate.{Rate}
use Rattle.round_gates.specs.declared.node.GateKind.{GateKind}
use Rattle.round_gates.specs.declared.node.GateKind.TheVariants.{And, Or, AtLeast}
use Rattle.round_gates.specs.declared.tree.Gate.{Gate}
use Rattle.round_gates.specs.declared.tree.Input.{Input}
use Rattle.round_gates.specs.declared.tree.Input.TheVariants as inputs
use Rattle.round_gates.specs.declared.tree.Tree.{Tree}
use Rattle.galileo_writer.specs.TreeText.{gate_name, rate_of}
use Rattle.open_psa_writer.specs.Mef.{Choice, EventInput, GateInput, Mef, MefEvent, MefFormula, MefGate, MefInput, Over, Own, Part, mef_bytes}
use Rattle.open_psa_writer.specs.Numbers.{number_of}

-- the number of the gate at a position: 1 for the top, and then from 2 on, in order
abbrev pub gate_number : ℕ → ℕ → ℕ
gate_number top at = if at == top then 1 else if nat_lt at top then at + 2 else at + 1

-- an input by its number in the text; events are numbered from 1, as the system has them
abbrev pub numbered : ℕ → Input → MefInput
numbered top (inputs.Event n) = EventInput (n + 1)
numbered top (inputs.Gate n) = GateInput (Own (gate_number top n))

-- ---- gates that count
--
-- SCRAM 0.16.2 reads `atleast` wrong where inputs have events in common. So a gate that counts and has a gate among its inputs is
-- written by auxiliary gates, in `and` and `or` alone: at least so many of some inputs are true where the first is, and at least one
-- less of the others, or at least so many of the others are.

-- the greatest number of auxiliary gates of a gate; one that would have more is written by `atleast`
abbrev pub most_parts : ℕ
most_parts = 1000000

-- whether a gate that asks for so many of so many inputs has no more
abbrev pub few_parts : ℕ → ℕ → Bool
few_parts least count = nat_le (least * (count + 1 - least)) most_parts

-- whether an input is a gate
abbrev pub is_any_gate : Input → Bool
is_any_gate (inputs.Event n) = false
is_any_gate (inputs.Gate n) = true

-- whether a gate that asks for so many of these inputs is written by auxiliary gates
abbrev pub is_spread : ℕ → List Input → Bool
is_spread least ins = list_any is_any_gate ins && few_parts least (length ins)

-- the auxiliary gate for at least so many of so many of the last inputs of the gate of a number
abbrev pub part : ℕ → ℕ → ℕ → MefInput
part number needed among = GateInput (Part number needed among)

-- What makes it true, by the first of these inputs. With it one less is needed, and one input less is left: the only input, `or` where one is
-- needed, `and` where all are, and a choice in between.
abbrev pub part_formula : ℕ → MefInput → ℕ → ℕ → MefFormula
part_formula number first needed among =
    if among == 1 then Over Or (first ∷ [])
    else if needed == 1 then Over Or (first ∷ part number needed (among - 1) ∷ [])
    else if needed == among then Over And (first ∷ part number (needed - 1) (among - 1) ∷ [])
    else Choice first (part number (needed - 1) (among - 1)) (part number needed (among - 1))

-- an auxiliary gate of a gate of these inputs
abbrev pub part_gate : ℕ → ℕ → List Input → ℕ → ℕ → MefGate
part_gate top number ins needed among =
    record {
      name = Part number needed among;
      label = [];
      formula = part_formula number (numbered top (slice_index_or ins (length ins - among) (inputs.Event 0))) needed among;
    }

-- the auxiliary gates that ask for so many, one for each number of the last inputs that can matter
abbrev pub part_row : ℕ → ℕ → List Input → ℕ → ℕ → List MefGate
part_row top number ins least needed = map (part_gate top number ins needed) (range_with_len needed (length ins + 1 - least))

-- the auxiliary gates of a gate that asks for so many of these inputs
abbrev pub part_rows : ℕ → ℕ → List Input → ℕ → List MefGate
part_rows top number ins least = flat_map (part_row top number ins least) (range_with_len 1 least)

-- what makes a gate of a kind true
abbrev pub whole_formula : ℕ → ℕ → GateKind → List Input → MefFormula
whole_formula top number And ins = Over And (map (numbered top) ins)
whole_formula top number Or ins = Over Or (map (numbered top) ins)
whole_formula top number (AtLeast least) ins =
    if is_spread least ins then Over Or (part number least (length ins) ∷ []) else Over (AtLeast least) (map (numbered top) ins)

-- the auxiliary gates of a gate of a kind
abbrev pub kind_parts : ℕ → ℕ → GateKind → List Input → List MefGate
kind_parts top number And ins = []
kind_parts top number Or ins = []
kind_parts top number (AtLeast least) ins = if is_spread least ins then part_rows top number ins least else []

-- ---- a tree

-- the gate at a position
abbrev pub mef_gate : System → ℕ → ℕ → Gate → MefGate
mef_gate system top at gate =
    record {
      name = Own (gate_number top at);
      label = gate_name system gate;
      formula = whole_formula top (gate_number top at) gate.kind gate.inputs;
    }

-- its auxiliary gates
abbrev pub gate_parts : ℕ → ℕ → Gate → List MefGate
gate_parts top at gate = kind_parts top (gate_number top at) gate.kind gate.inputs

-- the gates from a position on, but for the top, each with its auxiliary gates
abbrev pub gates_from : System → ℕ → ℕ → List Gate → List MefGate
gates_from system top at [] = []
gates_from system top at (gate ∷ gates) =
    if at == top then gates_from system top (suc at) gates else mef_gate system top at gate ∷ (gate_parts top at gate ++ gates_from system top (suc at) gates)

-- an event with its rate
abbrev pub mef_event : System → List Rate → ℕ → MefEvent
mef_event system rates number =
    record {
      number = number + 1;
      name = event_name system number;
      kind = (rate_of rates number).kind;
      value = number_of (rate_of rates number).text;
    }

-- no gate
abbrev pub no_gate : Gate
no_gate = record { fact = 0; stage = 0; place = 0; kind = Or; inputs = [] }

-- the top of a tree
abbrev pub top_gate : Tree → Gate
top_gate tree = slice_index_or tree.gates tree.top no_gate

-- a tree as a text: its top and the auxiliary gates of that, its other gates in order with theirs, and its events by number
abbrev pub tree_mef : System → Tree → List Rate → Mef
tree_mef system tree rates =
    record {
      top = mef_gate system tree.top tree.top (top_gate tree);
      others = gate_parts tree.top tree.top (top_gate tree) ++ gates_from system tree.top 0 tree.gates;
      events = map (mef_event system rates) tree.events;
    }

-- the bytes of the text of a tree
abbrev pub mef_text : System → Tree → List Rate → List ℕ
mef_text system tree rates = mef_bytes (tree_mef system tree rates)
