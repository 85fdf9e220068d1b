use Rattle.fault_system.specs.Truth.{member}
use Rattle.derivations.specs.Steps.{AreRight}
use Rattle.derivations.specs.inner.Marked.{IsBlank}
use Rattle.derivations.proofs.checking.first_wrong.Given as goal

abbrev pub invariant-loop-number : goal.invariant-loop-number
invariant-loop-number l = record {
  right : AreRight l.checked.system.now (member l.checked.events.now) l.checked.steps.now l.number;
  fact_marks : IsBlank l.fact_marks;
  event_marks : IsBlank l.event_marks;
}
