use Rattle.std.proofs.Common.{List, ℕ, IfOk, IfSome, IfNone, length, subst}
use Rattle.zdd_store.specs.inner.Store.{family_of}
use Rattle.target_probabilities.specs.Probability.{most_cases}
use Rattle.order_bounds.specs.inner.Orders.{AreOrderBounds, IsLeftOut}
use Rattle.order_bounds.proofs.Held.{told}
use Rattle.order_bounds.proofs.Small.{antichain}
use Rattle.order_bounds.proofs.to_order.bounds_to_order.Goals as goal

pub returns : goal.returns
returns c =
    let system = c.args.system.now in
    let part = c.args.part.now in
    let rates = c.args.rates.now in
    let most = c.args.most in
    let family = family_of c.small_family.new.store c.in_ok-id.id in
    let exact = c.in_ok-id.ensures.exact in
    told c.args.whole system part c.requires.slice rates c.requires.all most family exact c.order_bounds.result
    (subst (λ (events : List ℕ). IfOk c.order_bounds.result (λ found. IfSome found (AreOrderBounds c.args.whole rates family most events))) c.items.ensures.items c.order_bounds.ensures.bounds)
    (subst (λ (events : List ℕ). IfOk c.order_bounds.result (λ found. IfNone found (IsLeftOut (length rates) most_cases family most events))) c.items.ensures.items
    (c.order_bounds.ensures.none (antichain system part.target most family exact)))
