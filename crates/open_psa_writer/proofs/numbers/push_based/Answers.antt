use Rattle.std.proofs.Common.{◌++◌, codes, ap, ◌∙◌, sym}
use Rattle.std.specs.List.{flat_map}
use Rattle.open_psa_writer.specs.Mef.{Figures}
use Rattle.open_psa_writer.specs.Numbers.{plain}
use Rattle.open_psa_writer.specs.inner.Based.{digit_text, digits_in, opened}
use Rattle.open_psa_writer.proofs.Based.{behind-text}
use Rattle.open_psa_writer.proofs.Pieces.{before}
use Rattle.open_psa_writer.proofs.numbers.push_based.Goals as goal

pub returns : goal.returns
returns c =
    let digits = digits_in c.args.text.now in
    let base = plain c.args.base.now in
    before c.args.line.now.items (opened digits) (codes "<float value=\"0\"/>\n" ++ flat_map (digit_text base) digits) c.in_ok-push_opened.ensures
    (before c.push_opened.new.line.items (codes "<float value=\"0\"/>\n") (flat_map (digit_text base) digits) c.in_ok-extend_from_slice.ensures.items c.in_ok-push_digits.ensures)
    ∙ ap (λ t. c.args.line.now.items ++ t) (sym (behind-text base (Figures (codes "0")) digits))
