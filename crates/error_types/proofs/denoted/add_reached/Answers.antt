use Rattle.std.proofs.Common.{false, ◌++◌, refl, sym, ap, ◌∙◌}
use Rattle.error_types.specs.inner.Rows.{row_of}
use Rattle.error_types.specs.Walk.{reached, walk_from}
use Rattle.error_types.proofs.TypeRows.{rows-joined}
use Rattle.error_types.proofs.denoted.add_reached.Goals as goal

pub returns-clause-row : goal.returns-clause-row
returns-clause-row c = λ types is.
    let table = c.args.declarations.now in
    let more = (walk_from false table c.in-Some.id).types in
    let found = c.in_ok-found.ensures.reached in
    rows-joined table types more c.args.row.now (row_of table more) c.join_row.new.row is refl (λ same. c.join_row.ensures (row_of table more) found.row same)
    ∙ ap (λ target. row_of table (types ++ (reached false table target).types)) (sym c.in-Some.is)
