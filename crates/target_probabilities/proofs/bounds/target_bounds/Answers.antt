use Rattle.std.proofs.Common.{length, option_copied, subst, sym, ap, ◌∙◌}
use Rattle.probabilities.specs.inner.Decided.{FitWhole}
use Rattle.target_probabilities.specs.Probability.{AreTold, all_found, bounds_known, told_events}
use Rattle.target_probabilities.proofs.Probable.{known_fit, known_read}
use Rattle.target_probabilities.proofs.bounds.target_bounds.Goals as goal

pub told_known-requires-clause-rates : goal.told_known-requires-clause-rates
told_known-requires-clause-rates c =
    let whole = c.zeros-whole.result in
    subst (λ known. FitWhole whole (bounds_known known)) (sym c.as_slice-known.ensures.value)
    (known_fit whole (length c.args.system.now.events) c.args.rates.now c.numeral_of.result c.in_ok-list.list.items c.in_ok-list.ensures)

pub returns : goal.returns
returns c =
    let system = c.args.system.now in
    let rates = c.args.rates.now in
    let hours = option_copied c.args.hours in
    let whole = c.zeros-whole.result in
    let told = c.in_ok-told.told in
    record {
      wide = c.zeros-whole.ensures;
      known = c.in_ok-list.list.items;
      are_known = known_read whole system rates hours c.numeral_of.result c.in_ok-list.list.items c.numeral_of.ensures c.in_ok-list.ensures;
      told = subst (λ known. AreTold whole system c.args.part.now.target (bounds_known known) (told_events c.args.asked c.args.part.now.events) told.bounds told.importances.items) c.as_slice-known.ensures.value c.in_ok-told.ensures;
      found_is = c.in_ok-found.ensures ∙ ap all_found c.as_slice-known.ensures.value;
    }
