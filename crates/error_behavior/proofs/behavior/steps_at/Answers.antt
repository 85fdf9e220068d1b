use Rattle.std.proofs.Common.{◌≡◌, [], ◌++◌, ap, ◌∙◌}
use Rattle.noted_refusals.specs.inner.Noted.{noting}
use Rattle.package_index.proofs.Loops.{gathered-more}
use Rattle.noted_refusals.proofs.Loops.{noting-more}
use Rattle.error_behavior.specs.Steps.{step_of, transition_refusals}
use Rattle.error_behavior.proofs.behavior.steps_at.Goals as goal

pub loop-transition-preserved : goal.loop-transition-preserved
loop-transition-preserved c =
    let place = c.args.place.now in
    let table = c.args.reading.now.types in
    let one = c.transition-item.result in
    let kept : c.loop-transition.reading.types ≡ table = c.loop-transition.invariant.kept in
    record {
      kept = c.in_ok-add_step.ensures.kept ∙ kept;
      steps = gathered-more c.args.transitions.now c.loop-transition.transition-index one c.loop-transition-test.true c.transition-item.is (step_of place table) [] c.loop-transition.steps _ c.loop-transition.invariant.steps
          (c.in_ok-add_step.ensures.steps ∙ ap (λ types. c.loop-transition.steps ++ step_of place types one) kept);
      first = noting-more c.args.transitions.now c.loop-transition.transition-index one c.loop-transition-test.true c.transition-item.is (transition_refusals place table) c.loop-transition.reading.refusals _ _
          (c.in_ok-add_step.ensures.noted ∙ ap (λ types. noting c.loop-transition.reading.refusals (transition_refusals place types one)) kept) c.loop-transition.invariant.first;
    }
