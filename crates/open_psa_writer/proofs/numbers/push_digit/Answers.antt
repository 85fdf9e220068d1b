use Rattle.std.proofs.Common.{◌++◌, codes, decimal}
use Rattle.open_psa_writer.specs.Mef.{figures_text}
use Rattle.open_psa_writer.specs.Numbers.{digit_of, plain}
use Rattle.open_psa_writer.specs.inner.Based.{digit_text}
use Rattle.open_psa_writer.proofs.Pieces.{before}
use Rattle.open_psa_writer.proofs.numbers.push_digit.Goals as goal

pub returns : goal.returns
unfolding digit_text
returns c =
    before c.args.line.now.items (figures_text (plain c.args.base.now)) (codes "</mul>\n" ++ (figures_text (decimal (digit_of c.args.byte)) ++ codes "</add>\n")) c.in_ok-push_figures.ensures
    (before c.push_figures.new.line.items (codes "</mul>\n") (figures_text (decimal (digit_of c.args.byte)) ++ codes "</add>\n") c.in_ok-extend_from_slice.ensures.items
    (before c.extend_from_slice.new.self.items (figures_text (decimal (digit_of c.args.byte))) (codes "</add>\n") c.in_ok-push_meant.ensures c.in_ok-extend_from_slice-2.ensures.items))
