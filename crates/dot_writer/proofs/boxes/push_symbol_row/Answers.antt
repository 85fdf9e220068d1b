use Rattle.std.proofs.Common.{codes}
use Rattle.dot_writer.specs.Picture.{symbol, transfer_sign}
use Rattle.dot_writer.specs.TreePicture.{is_shared, usage_at}
use Rattle.dot_writer.proofs.Joined.{joined-four}
use Rattle.dot_writer.proofs.boxes.push_symbol_row.Goals as goal

pub returns : goal.returns
returns c =
    joined-four c.args.line.now.items c.extend_from_slice.new.self.items c.push_symbol.new.line.items c.push_box_sign.new.line.items c.extend_from_slice-2.new.self.items
    (codes "<tr><td bgcolor=\"#eeeeee\">") (symbol c.args.gate.now.kind) (transfer_sign (is_shared (usage_at c.args.sheet.now.usages c.args.position)) c.args.position) (codes "</td></tr>")
    c.in_ok-extend_from_slice.ensures.items c.in_ok-push_symbol.ensures c.in_ok-push_box_sign.ensures c.in_ok-extend_from_slice-2.ensures.items
