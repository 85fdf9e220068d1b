use Rattle.grammar_rules.proofs.Loops.{goes_on, smaller}
use Rattle.emv2_parts.specs.inner.Takes.{and_primary-takes, or_conjunction-takes, further_condition-takes}
use Rattle.emv2_parts.proofs.conditions.+condition.Goals as goal

pub and_parts-loop-parts-smaller : goal.and_parts-loop-parts-smaller
and_parts-loop-parts-smaller t c = smaller (and_primary-takes _) c.loop-parts-test.ensures c.in_ok-and_primary.ensures

pub and_parts-loop-parts-preserved : goal.and_parts-loop-parts-preserved
and_parts-loop-parts-preserved t c = rw c.in_ok-push-2.ensures.ok (goes_on (and_primary-takes _) c.loop-parts.invariant c.loop-parts-test.ensures c.in_ok-and_primary.ensures)

pub or_parts-loop-parts-smaller : goal.or_parts-loop-parts-smaller
or_parts-loop-parts-smaller t c = smaller (or_conjunction-takes _) c.loop-parts-test.ensures c.in_ok-or_conjunction.ensures

pub or_parts-loop-parts-preserved : goal.or_parts-loop-parts-preserved
or_parts-loop-parts-preserved t c = rw c.in_ok-push-2.ensures.ok (goes_on (or_conjunction-takes _) c.loop-parts.invariant c.loop-parts-test.ensures c.in_ok-or_conjunction.ensures)

pub further_parts-loop-parts-smaller : goal.further_parts-loop-parts-smaller
further_parts-loop-parts-smaller t c = smaller (further_condition-takes _) c.loop-parts-test.ensures c.in_ok-further_condition.ensures

pub further_parts-loop-parts-preserved : goal.further_parts-loop-parts-preserved
further_parts-loop-parts-preserved t c = rw c.in_ok-push-2.ensures.ok (goes_on (further_condition-takes _) c.loop-parts.invariant c.loop-parts-test.ensures c.in_ok-further_condition.ensures)
