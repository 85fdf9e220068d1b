use Rattle.std.proofs.Common.{◌++◌, codes}
use Rattle.open_psa_writer.specs.Mef.{number_text}
use Rattle.open_psa_writer.specs.Numbers.{number_of}
use Rattle.open_psa_writer.proofs.Pieces.{before}
use Rattle.open_psa_writer.proofs.numbers.push_exponential.Goals as goal

pub returns : goal.returns
returns c =
    let number = number_text (number_of c.args.text.now) in
    let back = codes "<system-mission-time/>\n</exponential>\n" in
    before c.args.line.now.items (codes "<exponential>\n") (number ++ back) c.in_ok-extend_from_slice.ensures.items
    (before c.extend_from_slice.new.self.items number back c.in_ok-push_value.ensures c.in_ok-extend_from_slice-2.ensures.items)
