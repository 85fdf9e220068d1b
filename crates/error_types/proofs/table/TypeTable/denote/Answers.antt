use Rattle.std.proofs.Common.{flat_map, ◌∙◌}
use Rattle.std.proofs.lemmas.Result.{IfOk-weaker}
use Rattle.error_types.specs.inner.Rows.{types_below}
use Rattle.error_types.specs.Walk.{term_types}
use Rattle.error_types.proofs.table.TypeTable.denote.Goals as goal

pub returns-clause-denoted : goal.returns-clause-denoted
returns-clause-denoted c =
    IfOk-weaker c.denoted.result _ _ (λ types is. is ∙ (λ i. types_below (c.self.view_is i) (flat_map (term_types (c.self.view_is i) c.args.scope.now) (c.items.ensures.items i)))) c.denoted.ensures.types
