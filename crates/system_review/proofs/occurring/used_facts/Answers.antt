use Rattle.std.proofs.Common.{◌<◌, false, length, ⊎_elim, ap, arith}
use Rattle.std.proofs.lemmas.List.{length-replicate}
use Rattle.fault_system.proofs.Occurrences.{occurs-in_range, fact-in_range}
use Rattle.system_review.proofs.Occurs.{fresh-not, used-computed}
use Rattle.system_review.proofs.occurring.used_facts.Goals as goal

pub returns-clause-exact : goal.returns-clause-exact
returns-clause-exact c n = (
  (λ h. ⊎_elim (λ old. absurd (fresh-not c.in_ok-facts.facts c.facts.result c.in_ok-facts.ensures n old)) (λ used. used) (c.mark_used.ensures.right n h)),
  (λ (k, fact, at, o).
      let low : n < length c.args.system.now.facts = occurs-in_range _ _ n fact.formula (fact-in_range c.args.system.now c.facts.ensures.system k fact at) o in
      let long = ap length c.in_ok-facts.ensures in
      c.mark_used.ensures.done k n fact at (omega (arith, c.facts.ensures.count, long, length-replicate c.facts.result false)) o),
)

pub returns-clause-computed : goal.returns-clause-computed
returns-clause-computed c = used-computed c.args.system.now c.mark_used.new.marks (returns-clause-exact c)
