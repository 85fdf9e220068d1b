use Rattle.std.proofs.Common.{◌<◌, ◌≤◌, ap, ◌∙◌, length, arith}
use Rattle.std.proofs.lemmas.List.{take_all}
use Rattle.plain_values.specs.Numbered.{numbered_from}
use Rattle.instantiator.specs.Whole.{Instance}
use Rattle.stray_bindings.specs.Stray.{stray_of}
use Rattle.stray_bindings.proofs.Wires.{strays-more}
use Rattle.stray_bindings.proofs.stray.all_stray.Goals as goal

pub loop-number-preserved : goal.loop-number-preserved
loop-number-preserved c =
    let instance = c.args.places.now in
    let long = ap length (c.components-number-end.ensures.components ∙ ap (λ (instance : Instance). instance.components) c.instance.ensures) in
    let within : c.loop-number.number < length instance.components = omega (arith, long, c.loop-number-test.true) in
    strays-more c.args.profile instance c.loop-number.number within c.loop-number.found c.add_component.new.found c.loop-number.invariant c.in_ok-add_component.ensures

pub returns : goal.returns
returns c =
    let instance = c.args.places.now in
    let long = ap length (c.components-number-end.ensures.components ∙ ap (λ (instance : Instance). instance.components) c.instance.ensures) in
    let past : length instance.components ≤ c.loop-number.number = omega (arith, long, c.loop-number-test.false) in
    c.loop-number.invariant ∙ ap (numbered_from (stray_of c.args.profile instance) 0) (take_all c.loop-number.number instance.components past)
