use Rattle.target_orders.proofs.Said.{one-order}
use Rattle.target_orders.proofs.laws.one_order.Goals as goal

pub returns : goal.returns
returns c = one-order
