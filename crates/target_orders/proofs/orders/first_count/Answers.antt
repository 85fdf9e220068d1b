use Rattle.std.proofs.Common.{ℕ, ⊎_elim, sym, subst}
use Rattle.target_orders.specs.Orders.{NeedsAtLeast}
use Rattle.target_orders.proofs.Reached.{needs-one}
use Rattle.target_orders.proofs.orders.first_count.Goals as goal

pub returns : goal.returns
returns c system knows never =
    let needs = λ (n : ℕ). NeedsAtLeast system c.args.fact n in
    ⊎_elim (λ same. subst needs (sym same) (c.low_of.ensures system knows.has_limits.are_bounds)) (λ one. subst needs (sym one) (needs-one system c.args.fact never)) c.at_least_one.ensures
