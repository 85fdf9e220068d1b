use Rattle.std.proofs.Common.{◌≡◌, ◌++◌, drop, take}
use Rattle.noted_refusals.specs.inner.Noted.{noting}
use Rattle.error_behavior.specs.Behavior.{clause_steps, clause_transition_refusals}
use Rattle.error_behavior.proofs.behavior.add_clause_steps.Given as goal

abbrev pub invariant-loop-transition : goal.invariant-loop-transition
invariant-loop-transition l = record {
  kept : l.reading.types ≡ l.fn.reading.types;
  steps : l.steps ≡ l.fn.steps ++ clause_steps l.fn.reading.types l.words l.texts (take l.transition-index l.transitions);
  first : noting l.reading.refusals (clause_transition_refusals l.fn.reading.types l.words l.texts (drop l.transition-index l.transitions)) ≡ noting l.fn.reading.refusals (clause_transition_refusals l.fn.reading.types l.words l.texts l.transitions);
}
