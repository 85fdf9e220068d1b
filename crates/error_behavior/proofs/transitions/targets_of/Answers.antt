use Rattle.std.proofs.Common.{◌≡◌, [], ◌++◌, ◌∙◌}
use Rattle.std.specs.Option.{option_map_or}
use Rattle.noted_refusals.specs.inner.Noted.{noting}
use Rattle.package_index.proofs.Loops.{gathered-more}
use Rattle.noted_refusals.proofs.Loops.{noting-more}
use Rattle.propagation_points.specs.Settings.{state_refusals_in}
use Rattle.propagation_points.specs.States.{held_numbers}
use Rattle.error_behavior.specs.Steps.{target_numbers}
use Rattle.error_behavior.proofs.transitions.targets_of.Goals as goal

pub loop-target-preserved : goal.loop-target-preserved
loop-target-preserved c =
    let table = c.args.reading.now.types in
    let setting = c.args.setting.now in
    let one = c.target-item.result in
    let kept : c.loop-target.reading.types ≡ table = c.loop-target.invariant.kept in
    record {
      kept = c.in_ok-held.ensures.kept ∙ kept;
      numbers = gathered-more c.args.targets.now c.loop-target.target-index one c.loop-target-test.true c.target-item.is (target_numbers table setting) [] c.loop-target.numbers _ c.loop-target.invariant.numbers
          (c.in_ok-add_held.ensures ∙ (λ i. c.loop-target.numbers ++ option_map_or held_numbers (c.in_ok-held.ensures.held i) []) ∙ (λ i. c.loop-target.numbers ++ target_numbers (kept i) setting one));
      first = noting-more c.args.targets.now c.loop-target.target-index one c.loop-target-test.true c.target-item.is (state_refusals_in table setting) c.loop-target.reading.refusals _ _
          (c.in_ok-held.ensures.noted ∙ (λ i. noting c.loop-target.reading.refusals (state_refusals_in (kept i) setting one))) c.loop-target.invariant.first;
    }
