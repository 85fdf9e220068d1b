use Rattle.std.proofs.Common.{◌<◌, ◌++◌, [], length, get_or, None, ap, ◌∙◌, subst, arith}
use Rattle.std.proofs.lemmas.List.{get_or_default}
use Rattle.std.proofs.lemmas.Result.{err_from_is_err_and}
use Rattle.plain_values.specs.declared.refusal.Code.TheVariants.{TooManyEvents}
use Rattle.instantiator.specs.declared.path.Component.{Component}
use Rattle.instantiator.specs.Whole.{Instance}
use Rattle.model_facts.specs.Facts.{component_events}
use Rattle.model_facts.specs.Limits.{most_events}
use Rattle.model_facts.specs.inner.Steps.{Exceeds, Grows}
use Rattle.model_facts.proofs.StepLaws.{exceeds-numbered, grows-numbered}
use Rattle.model_facts.proofs.event_list.events_with.Goals as goal

pub returns-in_err-add_component : goal.returns-in_err-add_component
returns-in_err-add_component c =
    let assembly = c.args.assembly.now in
    let all = assembly.instance.components in
    let number = c.loop-number.number in
    let long = ap length (c.components-number-end.ensures.components ∙ ap (λ (instance : Instance). instance.components) c.instance.ensures) in
    let within : number < length all = omega (arith, long, c.loop-number-test.true) in
    let none : Component = record { path = []; classifier = None } in
    let component : Component = get_or all number none in
    let is = get_or_default all number none component within in
    let p = err_from_is_err_and c.from_residual.result c.from_residual.ensures.1 in
    rw (p.1, p.2)
    (exceeds-numbered most_events TooManyEvents (component_events assembly) all number component within is [] c.loop-number.events c.loop-number.invariant c.in_err-add_component.field-0.0 (subst (λ links. Exceeds most_events TooManyEvents (c.loop-number.events ++ component_events (record assembly { links = links }) number component) c.in_err-add_component.field-0.0) c.requires c.in_err-add_component.ensures))

pub loop-number-preserved : goal.loop-number-preserved
loop-number-preserved c =
    let assembly = c.args.assembly.now in
    let all = assembly.instance.components in
    let number = c.loop-number.number in
    let long = ap length (c.components-number-end.ensures.components ∙ ap (λ (instance : Instance). instance.components) c.instance.ensures) in
    let within : number < length all = omega (arith, long, c.loop-number-test.true) in
    let none : Component = record { path = []; classifier = None } in
    let component : Component = get_or all number none in
    let is = get_or_default all number none component within in
    grows-numbered most_events TooManyEvents (component_events assembly) all number component within is [] c.loop-number.events c.loop-number.invariant c.add_component.new.events (subst (λ links. Grows most_events c.loop-number.events c.add_component.new.events (component_events (record assembly { links = links }) number component)) c.requires c.in_ok-add_component.ensures)
