use Rattle.std.proofs.Common.{◌≡◌, fold, map, take}
use Rattle.std.specs.HashMap.{get}
use Rattle.component_extension.specs.Rows.{put}
use Rattle.component_extension.specs.inner.Rows.{KnowsRows, same_words}
use Rattle.component_extension.proofs.items.put_items.Given as goal

abbrev pub invariant-loop-item : goal.invariant-loop-item
invariant-loop-item g l = record {
  rows : l.rows.items ≡ fold (put (λ scoped. g.T.ClauseItem.key scoped.item)) l.fn.rows.items (map (λ item. record { scope = l.scope; item = item }) (take l.item-index l.item-items));
  knows : KnowsRows (λ scoped. g.T.ClauseItem.key scoped.item) l.rows.items (get same_words l.places);
}
