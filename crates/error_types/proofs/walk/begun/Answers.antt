use Rattle.std.proofs.Common.{[], ◌++◌, option_to_list, ap, ◌∙◌}
use Rattle.std.proofs.lemmas.Result.{IfOk-weaker}
use Rattle.plain_values.specs.Order.{least}
use Rattle.error_types.specs.inner.Trip.{walk_left}
use Rattle.error_types.specs.Walk.{needs_of, of_item, products_of}
use Rattle.error_types.proofs.TripLaws.{starts}
use Rattle.error_types.proofs.walk.begun.Goals as goal

pub returns : goal.returns
returns c =
    let table = c.args.declarations.now in
    let types = c.in_ok-push_number.ensures ∙ (λ i. c.new-types.ensures.items i ++ option_to_list (c.number_met.ensures i)) in
    let needs = c.needs_of.ensures ∙ ap (of_item (needs_of c.args.through)) c.item-item.ensures in
    let first = c.products_of.ensures ∙ ap (λ item. least (of_item products_of item)) c.item-item.ensures in
    IfOk-weaker c.at.result _ _ (λ trip is.
    ap (walk_left c.args.through table) is
    ∙ (λ i. walk_left c.args.through table (record { top = record { item = c.args.id; rest = needs i }; below = []; followed = []; types = types i; first = first i }))
    ∙ starts c.args.through table c.args.id)
    c.at.ensures
