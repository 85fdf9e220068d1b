-- Beside specs/TreePicture.antt: what is left of the text of a tree.
use Rattle.std.specs.Prelude.{ℕ, Bool, true, false, ◌==◌, if◌then◌else◌, List, [], ◌++◌, codes, drop, length, map, unwrap_or, Option}
use Rattle.std.specs.List.{range_with_len}
use Rattle.std.specs.Option.{option_map_or}
use Rattle.dot_writer.specs.declared.sheet.Sheet.{Sheet}
use Rattle.dot_writer.specs.declared.usages.Usage.{Usage}
use Rattle.dot_writer.specs.declared.usages.Usage.TheVariants.{Unused, Once, Shared}
use Rattle.dot_writer.specs.Picture.{arc_lines, boxes_text, head_text, part_end}
use Rattle.dot_writer.specs.TreePicture.{above, arc_of, boxes_of, head, inputs_at, is_parted, part_of, usage_at}

-- the lines of what is below the gate at a position, from a place on
abbrev pub arcs_from : Sheet → ℕ → ℕ → List ℕ
arcs_from sheet position place = arc_lines position place (map (arc_of sheet position) (drop place (inputs_at sheet.tree.gates position)))

-- what stands behind the lines below the gate at a position
abbrev pub end_of : Sheet → ℕ → List ℕ
end_of sheet position = part_end (part_of sheet position)

-- the lines of what is below it, from a place on, and what stands behind them
abbrev pub below_from : Sheet → ℕ → ℕ → List ℕ
below_from sheet position place = arcs_from sheet position place ++ end_of sheet position

-- the boxes from a position on, each with what is below it
abbrev pub boxes_from : Sheet → ℕ → List ℕ
boxes_from sheet position = boxes_text position (boxes_of sheet position (drop position sheet.tree.gates))

-- the last line
abbrev pub foot : Bool → List ℕ
foot false = codes "}\n"
foot true = []

-- what is left of the lines behind the head: those below the box at hand, then the boxes from a position on, and the last line
abbrev pub body_left : Sheet → Option ℕ → ℕ → ℕ → Bool → List ℕ
body_left sheet box place next ended = option_map_or (λ position. below_from sheet position place) box [] ++ (boxes_from sheet next ++ foot ended)

-- what is left of a text, where the lines before the boxes were made or not
abbrev pub text_left : Sheet → Bool → Option ℕ → ℕ → ℕ → Bool → List ℕ
text_left sheet false box place next ended = head_text (is_parted sheet.tree.gates) sheet.title.legend ++ body_left sheet box place next ended
text_left sheet true box place next ended = body_left sheet box place next ended

-- ---- how gates are used

-- how an input is used once a gate has it too
abbrev pub used_by : ℕ → Usage → Usage
used_by gate Unused = Once gate
used_by gate (Once first) = if first == gate then Once first else Shared first
used_by gate (Shared first) = Shared first

-- how it is used then, where the gate has it
abbrev pub noted : ℕ → Bool → Usage → Usage
noted gate has usage = if has then used_by gate usage else usage

-- ---- parts

-- the gate above one that a single gate uses, and else itself
abbrev pub above_at : List Usage → ℕ → ℕ
above_at usages position = unwrap_or (above (usage_at usages position)) position

-- of each gate, what is so many gates above it at most
abbrev pub climbed : List Usage → ℕ → List ℕ
climbed usages steps = map (head usages steps) (range_with_len 0 (length usages))
