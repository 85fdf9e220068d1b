use Rattle.target_orders.proofs.Reached.{other-from_within, other-tested, tested-other, within-from_other}
use Rattle.target_orders.proofs.orders.holds_within.Goals as goal

pub returns : goal.returns
returns c =
    let store = c.family.new.store in
    let id = c.in_ok-sets.sets in
    let exact = c.in_ok-sets.ensures.exact in (
      (λ other. within-from_other store c.laws.ensures c.args.system.now c.args.part.now.target c.args.count id c.in_ok-sets.ensures.found exact (other-tested id.position c.eq-is_empty.result c.eq-is_empty.ensures other)),
      (λ within. tested-other id.position c.eq-is_empty.result c.eq-is_empty.ensures (other-from_within store c.laws.ensures c.args.system.now c.args.part.now.target c.args.count id c.in_ok-sets.ensures.found exact within)),
    )
