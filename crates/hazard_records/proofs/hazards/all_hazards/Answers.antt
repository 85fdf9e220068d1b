use Rattle.std.proofs.Common.{◌<◌, ◌≤◌, ap, ◌∙◌, length, arith}
use Rattle.std.proofs.lemmas.List.{take_all}
use Rattle.plain_values.specs.Numbered.{numbered_from}
use Rattle.instantiator.specs.Whole.{Instance}
use Rattle.hazard_records.specs.Hazards.{component_hazards}
use Rattle.hazard_records.proofs.HazardLaws.{hazards-more}
use Rattle.hazard_records.proofs.hazards.all_hazards.Goals as goal

pub loop-number-preserved : goal.loop-number-preserved
loop-number-preserved c =
    let model = c.args.model.now in
    let instance = model.instance in
    let long = ap length (c.components-number-end.ensures.components ∙ ap (λ (instance : Instance). instance.components) c.instance.ensures) in
    let within : c.loop-number.number < length instance.components = omega (arith, long, c.loop-number-test.true) in
    hazards-more model c.loop-number.number within c.loop-number.hazards c.add_component.new.hazards c.loop-number.invariant c.in_ok-add_component.ensures

pub returns : goal.returns
returns c =
    let model = c.args.model.now in
    let instance = model.instance in
    let long = ap length (c.components-number-end.ensures.components ∙ ap (λ (instance : Instance). instance.components) c.instance.ensures) in
    let past : length instance.components ≤ c.loop-number.number = omega (arith, long, c.loop-number-test.false) in
    c.loop-number.invariant ∙ ap (numbered_from (component_hazards model) 0) (take_all c.loop-number.number instance.components past)
