use Rattle.std.proofs.Common.{◌++◌, codes}
use Rattle.open_psa_writer.specs.Mef.{Part, name_text}
use Rattle.open_psa_writer.proofs.Pieces.{before}
use Rattle.open_psa_writer.proofs.parts.push_part_head.Goals as goal

pub returns : goal.returns
returns c =
    let name = name_text (Part c.args.number c.args.needed c.args.among) in
    let back = codes "\">\n" in
    before c.args.line.now.items (codes "<define-gate name=\"g") (name ++ back) c.in_ok-extend_from_slice.ensures.items
    (before c.extend_from_slice.new.self.items name back c.in_ok-push_part_name.ensures c.in_ok-extend_from_slice-2.ensures.items)
