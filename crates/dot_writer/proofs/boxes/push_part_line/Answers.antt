use Rattle.std.proofs.Common.{◌++◌, codes, ap, ◌∙◌, sym}
use Rattle.dot_writer.specs.Picture.{number, part_line}
use Rattle.dot_writer.proofs.Joined.{joined-three}
use Rattle.dot_writer.proofs.boxes.push_part_line.Goals as goal

pub returns-in_ok-extend_from_slice-in-Some-2 : goal.returns-in_ok-extend_from_slice-in-Some-2
returns-in_ok-extend_from_slice-in-Some-2 c =
    let start = c.args.line.now.items in
    joined-three start c.extend_from_slice.new.self.items c.push_number.new.line.items c.extend_from_slice-in-Some.new.self.items
    (codes "subgraph cluster_") (number c.in-Some.head) (codes " {label=\"\";color=gray;\n")
    c.in_ok-extend_from_slice-in-Some.ensures.items c.in_ok-push_number-in-Some.ensures c.in_ok-extend_from_slice-in-Some-2.ensures.items
    ∙ ap (λ part. start ++ part_line part) (sym c.in-Some.is)
