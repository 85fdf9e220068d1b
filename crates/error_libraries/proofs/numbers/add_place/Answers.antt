use Rattle.std.proofs.Common.{sym, ap, ◌∙◌}
use Rattle.std.specs.HashMap.{get}
use Rattle.package_index.specs.inner.Tables.{same_text}
use Rattle.package_index.proofs.KnowsLaws.{knows-more}
use Rattle.error_libraries.specs.Libraries.{is_type}
use Rattle.error_libraries.specs.inner.Tables.{has_type_text}
use Rattle.error_libraries.proofs.Keys.{type_agrees, type_alike}
use Rattle.error_libraries.proofs.numbers.add_place.Goals as goal

pub returns-in_ok-add : goal.returns-in_ok-add
returns-in_ok-add c =
    let item = c.index-items-place.result in
    let name = c.text.ensures.text ∙ ap (λ i. i.name) c.item-item.ensures in
    let is = ap (λ i. is_type i.kind) (sym c.item-item.ensures) ∙ sym c.if-is_type.ensures in
    knows-more has_type_text same_text c.args.items.now c.args.place item c.text.result (get same_text c.args.places.now) (get same_text c.add.new.table) _ c.requires.within c.index-items-place.is
    (λ other. type_agrees item c.text.result other is name) (type_alike c.text.result) c.requires.knows c.in_ok-add.ensures
