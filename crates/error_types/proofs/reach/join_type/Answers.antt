use Rattle.std.proofs.Common.{[], ◌∷◌, ◌<◌, length, refl, subst}
use Rattle.error_types.specs.inner.Rows.{row_of}
use Rattle.error_types.proofs.TypeRows.{rows-joined}
use Rattle.error_types.proofs.reach.join_type.Goals as goal

pub returns-then-number-types : goal.returns-then-number-types
returns-then-number-types c = λ types is.
    let table = c.args.declarations.now in
    let number = c.args.number in
    let less = subst (λ all. number < length all) c.types.ensures.types c.if-number-types.true in
    rows-joined table types (number ∷ []) c.args.row.now (row_of table (number ∷ [])) c.join_row.new.row is refl (λ same. c.join_row.ensures (row_of table (number ∷ [])) (c.requires.types.types number less) same)
