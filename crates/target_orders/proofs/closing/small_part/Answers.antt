use Rattle.std.proofs.Common.{subst}
use Rattle.std.specs.Prelude.{IfSome, Option}
use Rattle.backward_slice.specs.inner.Reach.{IsSmallReach}
use Rattle.backward_slice.specs.declared.parts.Reach.{Reach}
use Rattle.target_orders.proofs.LargeLaws.{small-part}
use Rattle.target_orders.proofs.closing.small_part.Goals as goal

pub returns-in-Some : goal.returns-in-Some
returns-in-Some c =
    let from = c.as_slice.result.now in
    small-part c.args.system.now from c.in-Some.found (subst (λ (found : Option Reach). IfSome found (IsSmallReach c.args.system.now from)) c.in-Some.is c.in_ok-found.ensures)
