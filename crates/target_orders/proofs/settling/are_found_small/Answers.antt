use Rattle.std.proofs.Common.{Bool, List, subst}
use Rattle.std.specs.Prelude.{IfSome, Option}
use Rattle.fault_system.specs.Truth.{member}
use Rattle.target_orders.specs.inner.Sizes.{AreSmall}
use Rattle.target_orders.proofs.LargeLaws.{small-put}
use Rattle.target_orders.proofs.settling.are_found_small.Goals as goal

pub returns-in-Some : goal.returns-in-Some
returns-in-Some c = record {
  large_are = c.requires.large_are;
  small_are = small-put c.args.question.now.system.now c.args.sizes.now.small c.put_all.new.marks (member c.in-Some.part) c.put_all.ensures c.requires.small_are
      (subst (λ (found : Option (List Bool)). IfSome found (AreSmall c.args.question.now.system.now)) c.in-Some.is c.in_ok-found.ensures);
}
