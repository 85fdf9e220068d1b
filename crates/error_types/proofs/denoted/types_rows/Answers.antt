use Rattle.std.proofs.lemmas.Result.{IfOk-weaker}
use Rattle.error_types.proofs.TypeRows.{type-rows}
use Rattle.error_types.proofs.denoted.types_rows.Goals as goal

pub returns : goal.returns
returns c = IfOk-weaker c.rows_of.result _ _ (λ rows is. type-rows c.args.declarations.now c.args.bases.now c.requires rows is) c.rows_of.ensures
