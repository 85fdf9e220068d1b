use Rattle.std.proofs.Common.{arith}
use Rattle.fault_system.specs.Truth.{member}
use Rattle.system_review.proofs.More.{possible-by_all, possible-computed}
use Rattle.system_review.proofs.possible.possible_facts.Goals as goal

pub returns-clause-exact : goal.returns-clause-exact
returns-clause-exact c n = (
  (λ h. (member c.in_ok-events.events, (c.in_ok-facts.ensures.exact n).0 h)),
  (λ possible. (c.in_ok-facts.ensures.exact n).1 (possible-by_all c.args.system.now (member c.in_ok-events.events) c.events.ensures.system (λ e low. c.in_ok-events.ensures e (omega (arith, c.events.ensures.count))) n possible)),
)

pub returns-clause-computed : goal.returns-clause-computed
returns-clause-computed c = possible-computed c.args.system.now c.in_ok-facts.facts c.events.ensures.system (returns-clause-exact c)
