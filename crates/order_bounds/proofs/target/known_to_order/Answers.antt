use Rattle.std.proofs.Common.{IfOk, ap, length, subst, sym, ◌∙◌}
use Rattle.probabilities.specs.inner.Decided.{FitWhole}
use Rattle.order_bounds.specs.Targets.{AreToldToOrder}
use Rattle.order_bounds.proofs.target.known_to_order.Goals as goal

pub bounds_to_order-requires-clause-rates : goal.bounds_to_order-requires-clause-rates
bounds_to_order-requires-clause-rates c = subst (FitWhole c.args.whole) (sym (c.as_slice.ensures.value ∙ c.in_ok-list.ensures)) c.requires.rates

pub bounds_to_order-requires-clause-all : goal.bounds_to_order-requires-clause-all
bounds_to_order-requires-clause-all c = ap length (c.as_slice.ensures.value ∙ c.in_ok-list.ensures) ∙ c.requires.all

pub returns : goal.returns
returns c =
    let part = c.args.part.now in
    subst (λ list. IfOk c.bounds_to_order.result (AreToldToOrder c.args.whole c.args.system.now part.target part.events list c.args.most)) (c.as_slice.ensures.value ∙ c.in_ok-list.ensures) c.bounds_to_order.ensures
