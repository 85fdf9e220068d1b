use Rattle.std.proofs.Common.{false, subst, sym}
use Rattle.std.specs.Prelude.{◌↔◌, IsTrue}
use Rattle.std.proofs.lemmas.Bool.{false≢true}
use Rattle.decimals.specs.Numerals.{number_of}
use Rattle.decimals.specs.inner.Figures.{IsReadAs}
use Rattle.compared_numbers.specs.Compared.{IsAtMost}
use Rattle.compared_numbers.proofs.Reading.{not_read, was_read}
use Rattle.compared_numbers.proofs.compared.is_at_most.Goals as goal

pub returns-in-None : goal.returns-in-None
returns-in-None c =
    subst (λ found. IsTrue false ↔ IsAtMost c.args.whole found c.args.bound) (sym (not_read (number_of c.args.text.now) (subst (IsReadAs (number_of c.args.text.now)) c.in-None.is c.read.ensures)))
    ((λ h. false≢true h), λ h. absurd h)

pub returns-in-Some : goal.returns-in-Some
returns-in-Some c =
    let found = was_read (number_of c.args.text.now) c.in-Some.number (subst (IsReadAs (number_of c.args.text.now)) c.in-Some.is c.read.ensures) in
    subst (λ number. IsTrue c.is_within.result ↔ IsAtMost c.args.whole number c.args.bound) (sym found.1) (c.is_within.ensures found.0 found.2)
