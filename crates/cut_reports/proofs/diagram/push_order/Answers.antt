use Rattle.std.proofs.Common.{◌∙◌, ◌++◌, ◌∷◌, [], ap}
use Rattle.zdd_store.specs.inner.Store.{family_of}
use Rattle.cut_reports.proofs.Spreading.{part_count}
use Rattle.cut_reports.proofs.diagram.push_order.Goals as goal

pub returns-in-Ok-push-clause-order : goal.returns-in-Ok-push-clause-order
returns-in-Ok-push-clause-order c e =
    c.in-Ok-push.ensures.items
    ∙ ap (λ n. c.args.orders.now.items ++ n ∷ []) (c.in-Some.ensures.count ∙ part_count c.of_size.new.store c.in-Ok.part c.args.size (family_of c.args.store.now c.args.family) c.in-Ok.ensures.family)
