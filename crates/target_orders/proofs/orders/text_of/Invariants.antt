use Rattle.std.proofs.Common.{◌≡◌, List, take}
use Rattle.std.specs.List.{AllZip}
use Rattle.target_orders.specs.Orders.{IsOrder}
use Rattle.target_orders.specs.Text.{order_lines}
use Rattle.target_orders.specs.declared.order.Order.{Order}
use Rattle.target_orders.proofs.orders.text_of.Given as goal

abbrev pub invariant-loop-fact : goal.invariant-loop-fact
invariant-loop-fact l =
    (orders : List Order) × AllZip (IsOrder l.system) (take l.fact-index l.facts) orders × (l.text.items ≡ order_lines l.system (take l.fact-index l.facts) orders)
