use Rattle.std.proofs.Common.{◌≡◌, drop, flat_map, take}
use Rattle.noted_refusals.specs.inner.Noted.{noting}
use Rattle.error_behavior.specs.Steps.{step_of, transition_refusals}
use Rattle.error_behavior.proofs.behavior.steps_at.Given as goal

abbrev pub invariant-loop-transition : goal.invariant-loop-transition
invariant-loop-transition l = record {
  kept : l.reading.types ≡ l.fn.reading.types;
  steps : l.steps ≡ flat_map (step_of l.place l.fn.reading.types) (take l.transition-index l.transitions);
  first : noting l.reading.refusals (flat_map (transition_refusals l.place l.fn.reading.types) (drop l.transition-index l.transitions)) ≡ noting l.fn.reading.refusals (flat_map (transition_refusals l.place l.fn.reading.types) l.transitions);
}
