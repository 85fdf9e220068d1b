-- The picture of a tree.
use Rattle.std.specs.Prelude.{ℕ, zero, suc, ◌+◌, ◌^◌, Bool, true, false, ◌==◌, ◌&&◌, nat_lt, if◌then◌else◌, List, [], ◌∷◌, map, filter, length, slice_get, slice_index_or, Option, None, Some}
use Rattle.std.specs.List.{range_with_len}
use Rattle.std.specs.Option.{option_map_or}
use Rattle.fault_system.specs.Systems.{System, event_name, fact_name}
use Rattle.property_reader.specs.declared.rate.Rate.{Rate}
use Rattle.round_gates.specs.declared.tree.Gate.{Gate}
use Rattle.round_gates.specs.declared.tree.Input.{Input}
use Rattle.round_gates.specs.declared.tree.Input.TheVariants as inputs
use Rattle.round_gates.specs.declared.tree.Tree.{Tree}
use Rattle.round_gates.specs.Trees.{has_gate}
use Rattle.galileo_writer.specs.TreeText.{gate_name, name_at, rate_of}
use Rattle.dot_writer.specs.declared.sheet.Sheet.{Sheet}
use Rattle.dot_writer.specs.declared.sheet.Title.{Title}
use Rattle.dot_writer.specs.declared.usages.Usage.{Usage}
use Rattle.dot_writer.specs.declared.usages.Usage.TheVariants.{Unused, Once, Shared}
use Rattle.dot_writer.specs.Picture.{Arc, EventArc, BoxArc, TransferArc, Box, Picture, picture_text}

-- ---- which gates use a gate

-- the inputs of the gate at a position
abbrev pub inputs_at : List Gate → ℕ → List Input
inputs_at gates position = option_map_or (λ gate. gate.inputs) (slice_get gates position) []

-- whether the gate at a position has another as an input
abbrev pub uses : List Gate → ℕ → ℕ → Bool
uses gates position input = has_gate (inputs_at gates position) input

-- of the first so many gates, those that have a gate as an input
abbrev pub users : List Gate → ℕ → ℕ → List ℕ
users gates count input = filter (λ position. uses gates position input) (range_with_len 0 count)

-- how these gates use it: none, one, or several, of which the first is told
abbrev pub usage_of : List ℕ → Usage
usage_of [] = Unused
usage_of (first ∷ []) = Once first
usage_of (first ∷ second ∷ others) = Shared first

-- how each gate is used
abbrev pub usages_of : List Gate → List Usage
usages_of gates = map (λ input. usage_of (users gates (length gates) input)) (range_with_len 0 (length gates))

-- how the gate at a position is used
abbrev pub usage_at : List Usage → ℕ → Usage
usage_at usages position = slice_index_or usages position Unused

-- whether transfers lead to a gate that is used so
abbrev pub is_shared : Usage → Bool
is_shared Unused = false
is_shared (Once first) = false
is_shared (Shared first) = true

-- ---- parts

-- whether a tree is drawn in several parts: one of more than 40 boxes is
abbrev pub is_parted : List Gate → Bool
is_parted gates = nat_lt 40 (length gates)

-- the gate above one that a single gate uses
abbrev pub above : Usage → Option ℕ
above Unused = None
above (Once first) = Some first
above (Shared first) = None

-- the gate at the head of the part of one: from that, at most so many gates up, to one that several use, or none
unfoldable pub head : List Usage → ℕ → ℕ → ℕ
head usages zero position = position
head usages (suc steps) position = option_map_or (head usages steps) (above (usage_at usages position)) position

-- the gate at the head of the part of each gate
abbrev pub heads_of : List Usage → List ℕ
heads_of usages = map (head usages (2 ^ 32)) (range_with_len 0 (length usages))

-- that of the gate at a position
abbrev pub head_at : List ℕ → ℕ → ℕ
head_at heads position = slice_index_or heads position position

-- the part in which a box stands, by the box at its head: only where the tree is drawn in parts, and not of the top
abbrev pub part_of : Sheet → ℕ → Option ℕ
part_of sheet position =
    if is_parted sheet.tree.gates then (if head_at sheet.heads position == sheet.tree.top then None else Some (head_at sheet.heads position)) else None

-- whether a gate that is used so is drawn below the gate at a position: that is the first which uses it; one to which transfers
-- lead is drawn below none, where the tree is drawn in parts
abbrev pub is_below : Bool → ℕ → Usage → Bool
is_below parted position Unused = false
is_below parted position (Once first) = first == position
is_below parted position (Shared first) = if parted then false else first == position

-- ---- boxes

-- gates of one formula: of one fact and one stage
abbrev pub of_one_formula : Gate → Gate → Bool
of_one_formula a b = a.fact == b.fact && a.stage == b.stage

-- whether a gate is an inner place of the formula of the one gate that uses it
abbrev pub is_inner : List Gate → Gate → Usage → Bool
is_inner gates gate Unused = false
is_inner gates gate (Once above) = option_map_or (λ user. of_one_formula user gate) (slice_get gates above) false
is_inner gates gate (Shared first) = false

-- The name of which the words of a box are made: that of the target for the top, and else that of the gate's fact; an inner place
-- of a formula has none, and is a bare symbol.
abbrev pub box_words : Sheet → ℕ → Gate → Option (List ℕ)
box_words sheet position gate =
    if position == sheet.tree.top then Some sheet.title.target
    else if is_inner sheet.tree.gates gate (usage_at sheet.usages position) then None
    else Some (fact_name sheet.system gate.fact)

-- what is below the gate at a position for an input: a gate that is drawn there, or a transfer to it
abbrev pub arc_of : Sheet → ℕ → Input → Arc
arc_of sheet position (inputs.Event number) = EventArc (event_name sheet.system number) (rate_of sheet.rates number)
arc_of sheet position (inputs.Gate number) =
    if is_below (is_parted sheet.tree.gates) position (usage_at sheet.usages number) then BoxArc number else TransferArc number (name_at sheet.system sheet.tree.gates number)

-- the box of the gate at a position
abbrev pub box_of : Sheet → ℕ → Gate → Box
box_of sheet position gate =
    record {
      part = part_of sheet position;
      name = gate_name sheet.system gate;
      words = box_words sheet position gate;
      kind = gate.kind;
      shared = is_shared (usage_at sheet.usages position);
      arcs = map (arc_of sheet position) gate.inputs;
    }

-- the boxes of gates, from a position on
abbrev pub boxes_of : Sheet → ℕ → List Gate → List Box
boxes_of sheet position [] = []
boxes_of sheet position (gate ∷ gates) = box_of sheet position gate ∷ boxes_of sheet (position + 1) gates

-- ---- the tree

-- what is drawn of a tree
abbrev pub sheet_of : System → Tree → List Rate → Title → Sheet
sheet_of system tree rates title = record { system = system; tree = tree; rates = rates; title = title; usages = usages_of tree.gates; heads = heads_of (usages_of tree.gates) }

-- the picture of a sheet
abbrev pub sheet_picture : Sheet → Picture
sheet_picture sheet = record { parted = is_parted sheet.tree.gates; legend = sheet.title.legend; boxes = boxes_of sheet 0 sheet.tree.gates }

-- the picture of a tree
abbrev pub tree_picture : System → Tree → List Rate → Title → Picture
tree_picture system tree rates title = sheet_picture (sheet_of system tree rates title)

-- The DOT text of a tree.
abbrev pub dot_text : System → Tree → List Rate → Title → List ℕ
dot_text system tree rates title = picture_text (tree_picture system tree rates title)
