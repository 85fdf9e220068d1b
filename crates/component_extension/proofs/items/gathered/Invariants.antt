use Rattle.std.proofs.Common.{◌≡◌, take}
use Rattle.std.specs.HashMap.{get}
use Rattle.component_extension.specs.Items.{gathered}
use Rattle.component_extension.specs.inner.Rows.{KnowsRows, same_words}
use Rattle.component_extension.proofs.items.gathered.Given as goal

abbrev pub invariant-loop-scope : goal.invariant-loop-scope
invariant-loop-scope g l = record {
  rows : l.rows.items ≡ gathered g.T.ClauseItem.items g.T.ClauseItem.key (take l.scope l.clauses);
  knows : KnowsRows (λ scoped. g.T.ClauseItem.key scoped.item) l.rows.items (get same_words l.places);
}
