use Rattle.std.proofs.Common.{codes}
use Rattle.dot_writer.specs.Picture.{symbol_row, words_row}
use Rattle.dot_writer.specs.TreePicture.{box_of, box_words}
use Rattle.dot_writer.proofs.Joined.{joined-four}
use Rattle.dot_writer.proofs.boxes.push_box_look.Goals as goal

pub returns : goal.returns
returns c =
    joined-four c.args.line.now.items c.extend_from_slice.new.self.items c.push_box_words.new.line.items c.push_symbol_row.new.line.items c.extend_from_slice-2.new.self.items
    (codes ",label=<<table border=\"0\" cellborder=\"1\" cellspacing=\"0\" cellpadding=\"4\">") (words_row (box_words c.args.sheet.now c.args.position c.args.gate.now))
    (symbol_row c.args.position (box_of c.args.sheet.now c.args.position c.args.gate.now)) (codes "</table>>")
    c.in_ok-extend_from_slice.ensures.items c.in_ok-push_box_words.ensures c.in_ok-push_symbol_row.ensures c.in_ok-extend_from_slice-2.ensures.items
