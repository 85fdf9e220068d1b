use Rattle.std.proofs.Common.{codes, ◌++◌}
use Rattle.galileo_writer.specs.TreeText.{gate_name}
use Rattle.dot_writer.specs.Picture.{box_look, kind_told, number, tooltip}
use Rattle.dot_writer.specs.TreePicture.{box_of}
use Rattle.dot_writer.proofs.Joined.{joined-four, joined-three}
use Rattle.dot_writer.proofs.boxes.push_box.Goals as goal

pub returns : goal.returns
returns c =
    let sheet = c.args.sheet.now in
    let gate = c.args.gate.now in
    let named = tooltip (gate_name sheet.system gate) in
    let kind = kind_told gate.kind in
    let look = box_look c.args.position (box_of sheet c.args.position gate) in
    let last = codes "];\n" in
    let after = c.push_gate_tooltip.new.line.items in
    joined-four c.args.line.now.items c.push.new.self.items c.push_number.new.line.items after c.extend_from_slice.new.self.items
    (codes "g") (number c.args.position) named (kind ++ (look ++ last))
    c.in_ok-push.ensures.items c.in_ok-push_number.ensures c.in_ok-push_gate_tooltip.ensures
    (joined-three after c.push_kind_told.new.line.items c.push_box_look.new.line.items c.extend_from_slice.new.self.items kind look last
    c.in_ok-push_kind_told.ensures c.in_ok-push_box_look.ensures c.in_ok-extend_from_slice.ensures.items)
