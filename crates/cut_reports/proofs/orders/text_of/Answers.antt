use Rattle.std.proofs.Common.{◌∙◌, ◌++◌, get_or, [], ap, arith}
use Rattle.std.proofs.lemmas.List.{take_all}
use Rattle.cut_reports.specs.inner.Numbered.{numbered_text}
use Rattle.cut_reports.specs.inner.Orders.{counted_order, order_line}
use Rattle.cut_reports.proofs.Numbered.{get_or_any, numbered_next}
use Rattle.cut_reports.proofs.orders.text_of.Goals as goal

pub loop-i-preserved : goal.loop-i-preserved
loop-i-preserved c =
    numbered_next (λ place name. counted_order c.args.counts.now place) 0 c.args.names.now c.loop-i.i c.loop-i.i (get_or c.args.names.now c.loop-i.i []) _ (order_line 0 c.args.empty) _
    (omega arith) (omega arith) (get_or_any c.args.names.now c.loop-i.i (omega arith)) c.loop-i.invariant c.in_ok-push_order-2.ensures

pub returns : goal.returns
returns c =
    c.loop-i.invariant
    ∙ ap (λ names. order_line 0 c.args.empty ++ numbered_text (λ place name. counted_order c.args.counts.now place) 0 names) (take_all c.loop-i.i c.args.names.now (omega arith))
