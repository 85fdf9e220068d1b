use Rattle.std.proofs.Common.{sym, subst, ◌∙◌}
use Rattle.target_orders.specs.inner.Cuts.{AreCuts}
use Rattle.target_orders.proofs.orders.last_count.Goals as goal

pub returns-then-is_alone : goal.returns-then-is_alone
returns-then-is_alone c = c.requires.alone c.args.fact (sym c.has-is_alone.ensures ∙ c.if-is_alone.true)

pub set_count-requires-clause-cuts : goal.set_count-requires-clause-cuts
set_count-requires-clause-cuts c = subst (AreCuts c.args.system.now) (sym c.as_slice.ensures.value) c.requires.known.has_limits.are_cuts
