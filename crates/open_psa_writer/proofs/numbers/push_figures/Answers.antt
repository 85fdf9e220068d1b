use Rattle.std.proofs.Common.{◌++◌, codes}
use Rattle.open_psa_writer.specs.Numbers.{plain}
use Rattle.open_psa_writer.proofs.Pieces.{before}
use Rattle.open_psa_writer.proofs.numbers.push_figures.Goals as goal

pub returns : goal.returns
returns c =
    before c.args.line.now.items (codes "<float value=\"") (plain c.args.text.now ++ codes "\"/>\n") c.in_ok-extend_from_slice.ensures.items
    (before c.extend_from_slice.new.self.items (plain c.args.text.now) (codes "\"/>\n") c.in_ok-push_plain.ensures c.in_ok-extend_from_slice-2.ensures.items)
