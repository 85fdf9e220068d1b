use Rattle.std.proofs.Common.{◌∙◌, ap, sym}
use Rattle.galileo_reader.specs.Statements.{statement_of}
use Rattle.galileo_reader.proofs.NameLists.{no-statement}
use Rattle.galileo_reader.proofs.reading.token_line.Goals as goal

pub returns-clause-line : goal.returns-clause-line
returns-clause-line c =
    let found = rw c.in-Some.is at c.in_ok-next.ensures.found in
    no-statement c.args.wide c.args.text.now c.args.at _ c.in-Some.next found.2 (ap (statement_of c.args.text.now) (sym c.as_slice.ensures.value) ∙ sym c.in_ok-statement.ensures ∙ c.in-None.is)
