use Rattle.std.proofs.Common.{◌∙◌, ap, subst, sym}
use Rattle.decimals.specs.Numerals.{number_of}
use Rattle.decimals.specs.inner.Figures.{IsReadAs}
use Rattle.compared_numbers.specs.Compared.{is_some_number, is_such}
use Rattle.compared_numbers.proofs.Reading.{not_read, was_read}
use Rattle.compared_numbers.proofs.compared.is_number_above_nothing.Goals as goal

pub returns-in-None : goal.returns-in-None
returns-in-None c = sym (ap (is_such is_some_number) (not_read (number_of c.args.text.now) (subst (IsReadAs (number_of c.args.text.now)) c.in-None.is c.read.ensures)))

pub returns-in-Some : goal.returns-in-Some
returns-in-Some c =
    let found = was_read (number_of c.args.text.now) c.in-Some.number (subst (IsReadAs (number_of c.args.text.now)) c.in-Some.is c.read.ensures) in
    c.is_some_number.ensures found.0 found.2 ∙ sym (ap (is_such is_some_number) found.1)
