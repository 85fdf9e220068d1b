use Rattle.std.proofs.Common.{nat_eq, arith, length}
use Rattle.std.specs.HashSet.{contains}
use Rattle.system_review.proofs.InOrder.{followed-all, within-first}
use Rattle.system_review.proofs.followed.followed.Goals as goal

pub returns-then-is_closed : goal.returns-then-is_closed
returns-then-is_closed c =
    followed-all c.args.system.now c.args.among.now c.args.cause (length c.as_slice.result.now) (contains nat_eq c.add_in_order.new.found.numbers)
    (c.in_ok-add_in_order.ensures c.args.cause (within-first c.args.system.now c.args.among.now c.args.cause (contains nat_eq c.in_ok-found.found.numbers) c.in_ok-found.ensures))
    (omega (arith, c.as_slice.ensures.len, c.len.ensures, c.if-len-among.false))
    (c.is_closed.ensures c.if-is_closed.true)
