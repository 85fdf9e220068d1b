use Rattle.std.proofs.Common.{ℕ, sym, subst, ◌∙◌}
use Rattle.target_orders.specs.Orders.{HoldsWithin}
use Rattle.target_orders.proofs.orders.reached_order.Goals as goal

pub returns-then-is_large : goal.returns-then-is_large
returns-then-is_large c = (c.requires.some, c.requires.perhaps, c.requires.known.knows_sizes.large_are c.args.fact (sym c.has-is_large.ensures ∙ c.if-is_large.true))

pub returns-then-is_told : goal.returns-then-is_told
returns-then-is_told c = (
  c.requires.some,
  c.requires.known.knows_sizes.small_are c.args.fact (sym c.has-is_small.ensures ∙ c.if-is_small.true),
  subst (λ (n : ℕ). HoldsWithin c.args.system.now c.args.fact n) (sym (c.are_equal-is_told.ensures c.if-is_told.true)) c.last_count-high.ensures,
  c.first_count-low.ensures c.args.system.now c.requires.known c.requires.some,
)

pub searched-requires-clause-fewest : goal.searched-requires-clause-fewest
searched-requires-clause-fewest c = c.first_count-low.ensures c.args.system.now c.requires.known c.requires.some
