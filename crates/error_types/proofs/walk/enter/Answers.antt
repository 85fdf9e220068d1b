use Rattle.std.proofs.Common.{ap, ◌∙◌}
use Rattle.plain_values.specs.Order.{least}
use Rattle.error_types.specs.inner.Trip.{at_visit, walk_left}
use Rattle.error_types.specs.Walk.{needs_of, of_item, products_of}
use Rattle.error_types.proofs.TripLaws.{enters}
use Rattle.error_types.proofs.walk.enter.Goals as goal

pub returns : goal.returns
returns c =
    let table = c.args.declarations.now in
    let needs = c.needs_of.ensures ∙ ap (of_item (needs_of c.args.through)) c.item-item.ensures in
    let first = c.noted.ensures ∙ c.products_of-first.ensures ∙ ap (λ item. least (of_item products_of item)) c.item-item.ensures in
    ap (walk_left c.args.through table) c.in_ok-next.ensures
    ∙ (λ i. walk_left c.args.through table (at_visit c.args.trip c.args.id (needs i) (c.number_met-number.ensures i) (first i)))
    ∙ enters c.args.through table c.args.trip c.args.need c.args.id c.requires.kind c.requires.new c.requires.apart c.requires.few
