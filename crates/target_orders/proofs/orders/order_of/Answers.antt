use Rattle.std.proofs.Common.{sym, ◌∙◌}
use Rattle.std.proofs.lemmas.Bool.{false≢true}
use Rattle.target_orders.proofs.orders.order_of.Goals as goal

pub returns-then-is_always : goal.returns-then-is_always
returns-then-is_always c = (c.requires.known.always_is c.args.fact).0 (sym c.has-is_always.ensures ∙ c.if-is_always.true)

pub reached_order-requires-clause-some : goal.reached_order-requires-clause-some
reached_order-requires-clause-some c cut = absurd (false≢true (sym c.if-is_always.false ∙ c.has-is_always.ensures ∙ (c.requires.known.always_is c.args.fact).1 cut))

pub reached_order-requires-clause-perhaps : goal.reached_order-requires-clause-perhaps
reached_order-requires-clause-perhaps c = (c.requires.known.perhaps_is c.args.fact).0 (sym c.has-may_hold.ensures ∙ c.if-may_hold.true)

pub returns : goal.returns
returns c holds = absurd (false≢true (sym c.if-may_hold.false ∙ c.has-may_hold.ensures ∙ (c.requires.known.perhaps_is c.args.fact).1 holds))
