use Rattle.std.proofs.Common.{codes, flat_map, ◌++◌, ap, ◌∙◌}
use Rattle.dot_writer.specs.Picture.{drawn_text, legend_line, symbols_text}
use Rattle.dot_writer.proofs.Joined.{joined-four}
use Rattle.dot_writer.proofs.boxes.push_head_text.Goals as goal

pub returns : goal.returns
returns c =
    let start = c.args.line.now.items in
    let drawn = c.push_drawn.new.line.items in
    joined-four start drawn c.extend_from_slice.new.self.items c.push_legend.new.line.items c.extend_from_slice-2.new.self.items
    (drawn_text c.args.parted) symbols_text (flat_map legend_line c.args.legend.now) (codes ">;\n")
    c.in_ok-push_drawn.ensures
    (c.in_ok-extend_from_slice.ensures.items ∙ ap (λ t. drawn ++ t) c.symbols_text.ensures)
    c.in_ok-push_legend.ensures c.in_ok-extend_from_slice-2.ensures.items
