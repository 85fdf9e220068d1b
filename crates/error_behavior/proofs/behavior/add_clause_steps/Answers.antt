use Rattle.std.proofs.Common.{◌≡◌, ◌++◌, ap, ◌∙◌}
use Rattle.noted_refusals.specs.inner.Noted.{noting}
use Rattle.package_index.proofs.Loops.{gathered-more}
use Rattle.noted_refusals.proofs.Loops.{noting-more}
use Rattle.error_behavior.specs.Behavior.{clause_place}
use Rattle.error_behavior.specs.Steps.{transition_refusals, step_of}
use Rattle.error_behavior.specs.Triggers.{place_in}
use Rattle.error_behavior.proofs.behavior.add_clause_steps.Goals as goal

pub loop-transition-preserved : goal.loop-transition-preserved
loop-transition-preserved c =
    let words = c.args.words.now in
    let texts = c.args.texts.now in
    let table = c.args.reading.now.types in
    let one = c.transition-item.result in
    let kept : c.loop-transition.reading.types ≡ table = c.loop-transition.invariant.kept in
    let here : c.place-place.result ≡ clause_place words texts one.scope = c.place-place.ensures ∙ ap (place_in words) c.clause_scope.ensures ∙ ap (clause_place words texts) c.scope.ensures in
    record {
      kept = c.in_ok-add_step.ensures.kept ∙ kept;
      steps = gathered-more c.args.transitions.now c.loop-transition.transition-index one c.loop-transition-test.true c.transition-item.is (λ each. step_of (clause_place words texts each.scope) table each.item) c.args.steps.now c.loop-transition.steps _ c.loop-transition.invariant.steps
          (c.in_ok-add_step.ensures.steps ∙ (λ i. c.loop-transition.steps ++ step_of (here i) (kept i) (c.item.ensures i)));
      first = noting-more c.args.transitions.now c.loop-transition.transition-index one c.loop-transition-test.true c.transition-item.is (λ each. transition_refusals (clause_place words texts each.scope) table each.item) c.loop-transition.reading.refusals _ _
          (c.in_ok-add_step.ensures.noted ∙ (λ i. noting c.loop-transition.reading.refusals (transition_refusals (here i) (kept i) (c.item.ensures i)))) c.loop-transition.invariant.first;
    }
