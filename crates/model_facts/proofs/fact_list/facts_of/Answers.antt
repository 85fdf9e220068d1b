use Rattle.std.proofs.Common.{◌<◌, [], length, get_or, None, ap, ◌∙◌, arith}
use Rattle.std.proofs.lemmas.List.{get_or_default}
use Rattle.std.proofs.lemmas.Result.{err_from_is_err_and}
use Rattle.plain_values.specs.declared.refusal.Code.TheVariants.{TooManyFacts}
use Rattle.instantiator.specs.declared.path.Component.{Component}
use Rattle.instantiator.specs.Whole.{Instance}
use Rattle.model_facts.specs.Facts.{component_facts}
use Rattle.model_facts.specs.Limits.{most_facts}
use Rattle.model_facts.proofs.StepLaws.{exceeds-numbered, grows-numbered}
use Rattle.model_facts.proofs.fact_list.facts_of.Goals as goal

pub returns-in_err-add_component : goal.returns-in_err-add_component
returns-in_err-add_component c =
    let assembly = c.args.assembly.now in
    let all = assembly.instance.components in
    let number = c.loop-number.number in
    let long = ap length (c.components-number-end.ensures.components ∙ ap (λ (instance : Instance). instance.components) c.instance.ensures) in
    let within : number < length all = omega (arith, long, c.loop-number-test.true) in
    let none : Component = record { path = []; classifier = None } in
    let component : Component = get_or all number none in
    let is = get_or_default all number none component within in
    let p = err_from_is_err_and c.from_residual.result c.from_residual.ensures.1 in
    rw (p.1, p.2)
    (exceeds-numbered most_facts TooManyFacts (component_facts assembly c.args.universe.now) all number component within is [] c.loop-number.facts c.loop-number.invariant c.in_err-add_component.field-0.0 c.in_err-add_component.ensures)

pub loop-number-preserved : goal.loop-number-preserved
loop-number-preserved c =
    let assembly = c.args.assembly.now in
    let all = assembly.instance.components in
    let number = c.loop-number.number in
    let long = ap length (c.components-number-end.ensures.components ∙ ap (λ (instance : Instance). instance.components) c.instance.ensures) in
    let within : number < length all = omega (arith, long, c.loop-number-test.true) in
    let none : Component = record { path = []; classifier = None } in
    let component : Component = get_or all number none in
    let is = get_or_default all number none component within in
    grows-numbered most_facts TooManyFacts (component_facts assembly c.args.universe.now) all number component within is [] c.loop-number.facts c.loop-number.invariant c.add_component.new.facts c.in_ok-add_component.ensures
