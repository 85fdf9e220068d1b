use Rattle.std.proofs.Common.{ℕ, sym, subst}
use Rattle.backward_slice.proofs.OneSlice.{served_or_large}
use Rattle.target_orders.specs.Orders.{HoldsWithin, NeedsAtLeast}
use Rattle.target_orders.proofs.orders.searched.Goals as goal

pub least-requires-clause-within : goal.least-requires-clause-within
least-requires-clause-within c = subst (λ (n : ℕ). HoldsWithin c.args.system.now n c.args.high) (sym c.in-Ok.ensures.is_slice.target_is) c.requires.within

pub least-requires-clause-fewest : goal.least-requires-clause-fewest
least-requires-clause-fewest c = subst (λ (n : ℕ). NeedsAtLeast c.args.system.now n c.args.low) (sym c.in-Ok.ensures.is_slice.target_is) c.requires.fewest

pub returns-in_ok-least-in-Ok : goal.returns-in_ok-least-in-Ok
returns-in_ok-least-in-Ok c = (
  c.requires.some,
  (λ (refusal, large). served_or_large c.args.system.now c.args.fact c.in-Ok.part refusal c.in-Ok.ensures large),
  subst (λ (n : ℕ). HoldsWithin c.args.system.now n c.in_ok-least-in-Ok.field-0) c.in-Ok.ensures.is_slice.target_is c.in_ok-least-in-Ok.ensures.within,
  subst (λ (n : ℕ). NeedsAtLeast c.args.system.now n c.in_ok-least-in-Ok.field-0) c.in-Ok.ensures.is_slice.target_is c.in_ok-least-in-Ok.ensures.fewest,
)
