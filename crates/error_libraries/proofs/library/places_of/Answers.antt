use Rattle.std.proofs.Common.{ap, ◌∙◌}
use Rattle.std.specs.HashMap.{get}
use Rattle.package_index.specs.inner.Tables.{same_text}
use Rattle.package_index.proofs.KnowsLaws.{knows-more}
use Rattle.error_libraries.specs.inner.Tables.{has_item_text}
use Rattle.error_libraries.proofs.Keys.{item_agrees, item_alike}
use Rattle.error_libraries.proofs.library.places_of.Goals as goal

pub loop-place-preserved : goal.loop-place-preserved
loop-place-preserved c =
    let item = c.index-items-place.result in
    let name = c.text.ensures.text ∙ ap (λ i. i.name) c.item.ensures in
    knows-more has_item_text same_text c.args.items.now c.loop-place.place item c.text.result (get same_text c.loop-place.places) (get same_text c.add.new.table) _ c.loop-place-test.true c.index-items-place.is
    (λ other. item_agrees item c.text.result other name) (item_alike c.text.result) c.loop-place.invariant c.in_ok-add.ensures
