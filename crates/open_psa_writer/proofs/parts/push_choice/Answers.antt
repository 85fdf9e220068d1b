use Rattle.std.proofs.Common.{◌-◌, ◌++◌, codes}
use Rattle.open_psa_writer.specs.Mef.{input_text}
use Rattle.open_psa_writer.specs.TreeMef.{numbered, part}
use Rattle.open_psa_writer.proofs.Pieces.{before, before-two}
use Rattle.open_psa_writer.proofs.parts.push_choice.Goals as goal

pub returns : goal.returns
returns c =
    let first = input_text (numbered c.args.top c.args.first) in
    let second = input_text (part c.args.number (c.args.needed - 1) c.args.among) in
    let third = input_text (part c.args.number c.args.needed c.args.among) in
    let back = codes "</or>\n" in
    let rest = codes "</and>\n" ++ (third ++ back) in
    before c.args.line.now.items (codes "<or>\n<and>\n") (first ++ (second ++ rest)) c.in_ok-extend_from_slice.ensures.items
    (before-two c.extend_from_slice.new.self.items first second rest c.in_ok-push_pair.ensures
    (before c.push_pair.new.line.items (codes "</and>\n") (third ++ back) c.in_ok-extend_from_slice-2.ensures.items
    (before c.extend_from_slice-2.new.self.items third back c.in_ok-push_part.ensures c.in_ok-extend_from_slice-3.ensures.items)))
