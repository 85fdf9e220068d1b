use Rattle.std.proofs.Common.{◌≡◌, ◌++◌, take}
use Rattle.cut_reports.specs.inner.Numbered.{numbered_text}
use Rattle.cut_reports.specs.inner.Orders.{counted_order, order_line}
use Rattle.cut_reports.proofs.orders.text_of.Given as goal

abbrev pub invariant-loop-i : goal.invariant-loop-i
invariant-loop-i l = l.text.items ≡ order_line 0 l.empty ++ numbered_text (λ place name. counted_order l.counts place) 0 (take l.i l.names)
