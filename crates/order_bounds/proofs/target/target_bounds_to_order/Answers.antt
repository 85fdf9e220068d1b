use Rattle.std.proofs.Common.{length, option_copied, subst, sym, ap, ◌∙◌}
use Rattle.probabilities.specs.inner.Decided.{FitWhole}
use Rattle.target_probabilities.specs.Probability.{all_found, bounds_known}
use Rattle.target_probabilities.proofs.Probable.{known_fit, known_read}
use Rattle.order_bounds.specs.Targets.{AreToldToOrder}
use Rattle.order_bounds.proofs.target.target_bounds_to_order.Goals as goal

pub known_to_order-requires-clause-rates : goal.known_to_order-requires-clause-rates
known_to_order-requires-clause-rates c =
    let whole = c.zeros-whole.result in
    subst (λ known. FitWhole whole (bounds_known known)) (sym c.as_slice-known.ensures.value)
    (known_fit whole (length c.args.system.now.events) c.args.rates.now c.numeral_of.result c.in_ok-list.list.items c.in_ok-list.ensures)

pub returns : goal.returns
returns c =
    let system = c.args.system.now in
    let rates = c.args.rates.now in
    let hours = option_copied c.args.hours in
    let part = c.args.part.now in
    let whole = c.zeros-whole.result in
    let bounds = c.in_ok-bounds.bounds in
    record {
      wide = c.zeros-whole.ensures;
      known = c.in_ok-list.list.items;
      are_known = known_read whole system rates hours c.numeral_of.result c.in_ok-list.list.items c.numeral_of.ensures c.in_ok-list.ensures;
      told = subst (λ known. AreToldToOrder whole system part.target part.events (bounds_known known) c.args.most bounds) c.as_slice-known.ensures.value c.in_ok-bounds.ensures;
      found_is = c.in_ok-found.ensures ∙ ap all_found c.as_slice-known.ensures.value;
      alone = c.new.ensures.items;
    }
