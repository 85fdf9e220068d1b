use Rattle.std.proofs.Common.{◌≡◌, [], ◌++◌, ap, ◌∙◌}
use Rattle.noted_refusals.specs.inner.Noted.{noting}
use Rattle.package_index.proofs.Loops.{gathered-more}
use Rattle.noted_refusals.proofs.Loops.{noting-more}
use Rattle.error_behavior.specs.Behavior.{clause_place}
use Rattle.error_behavior.specs.Steps.{outgoing_refusals, emission_of}
use Rattle.error_behavior.specs.Triggers.{place_in}
use Rattle.error_behavior.proofs.behavior.emissions_of.Goals as goal

pub loop-condition-preserved : goal.loop-condition-preserved
loop-condition-preserved c =
    let words = c.args.words.now in
    let texts = c.args.texts.now in
    let table = c.args.reading.now.types in
    let one = c.condition-item.result in
    let kept : c.loop-condition.reading.types ≡ table = c.loop-condition.invariant.kept in
    let here : c.place-place.result ≡ clause_place words texts one.scope = c.place-place.ensures ∙ ap (place_in words) c.clause_scope.ensures ∙ ap (clause_place words texts) c.scope.ensures in
    record {
      kept = c.in_ok-add_emission.ensures.kept ∙ kept;
      emissions = gathered-more c.args.outgoing.now c.loop-condition.condition-index one c.loop-condition-test.true c.condition-item.is (λ each. emission_of (clause_place words texts each.scope) table each.item) [] c.loop-condition.emissions _ c.loop-condition.invariant.emissions
          (c.in_ok-add_emission.ensures.emissions ∙ (λ i. c.loop-condition.emissions ++ emission_of (here i) (kept i) (c.item.ensures i)));
      first = noting-more c.args.outgoing.now c.loop-condition.condition-index one c.loop-condition-test.true c.condition-item.is (λ each. outgoing_refusals (clause_place words texts each.scope) table each.item) c.loop-condition.reading.refusals _ _
          (c.in_ok-add_emission.ensures.noted ∙ (λ i. noting c.loop-condition.reading.refusals (outgoing_refusals (here i) (kept i) (c.item.ensures i)))) c.loop-condition.invariant.first;
    }
