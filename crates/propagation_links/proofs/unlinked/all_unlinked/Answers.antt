use Rattle.std.proofs.Common.{◌<◌, ◌≤◌, ap, ◌∙◌, length, arith}
use Rattle.std.proofs.lemmas.List.{take_all}
use Rattle.plain_values.specs.Numbered.{numbered_from}
use Rattle.instantiator.specs.Whole.{Instance}
use Rattle.propagation_links.specs.Unlinked.{component_unlinked}
use Rattle.propagation_links.proofs.UnlinkedLaws.{unlinked-more}
use Rattle.propagation_links.proofs.unlinked.all_unlinked.Goals as goal

pub loop-number-preserved : goal.loop-number-preserved
loop-number-preserved c =
    let pointed = c.args.pointed.now in
    let long = ap length (c.components-number-end.ensures.components ∙ ap (λ (instance : Instance). instance.components) c.instance.ensures) in
    let within : c.loop-number.number < length pointed.instance.components = omega (arith, long, c.loop-number-test.true) in
    unlinked-more pointed c.loop-number.number within c.loop-number.found c.add_component.new.found c.loop-number.invariant c.in_ok-add_component.ensures

pub returns : goal.returns
returns c =
    let pointed = c.args.pointed.now in
    let long = ap length (c.components-number-end.ensures.components ∙ ap (λ (instance : Instance). instance.components) c.instance.ensures) in
    let past : length pointed.instance.components ≤ c.loop-number.number = omega (arith, long, c.loop-number-test.false) in
    c.loop-number.invariant ∙ ap (numbered_from (component_unlinked pointed) 0) (take_all c.loop-number.number pointed.instance.components past)
