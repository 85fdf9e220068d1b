use Rattle.std.proofs.Common.{◌<◌, ◌≤◌, ap, ◌∙◌, length, arith}
use Rattle.std.proofs.lemmas.List.{take_all}
use Rattle.std.proofs.lemmas.Result.{err_from_is_err_and}
use Rattle.plain_values.specs.Numbered.{numbered_from}
use Rattle.instantiator.specs.Whole.{Instance}
use Rattle.propagation_links.specs.Links.{component_links}
use Rattle.instantiator.proofs.GroupLaws.{told-stops}
use Rattle.propagation_links.specs.Refused.{faults_group, first_fault}
use Rattle.propagation_links.proofs.LinkLaws.{accepted-all, clear-more, faults-least, links-more, tells-at}
use Rattle.propagation_links.proofs.all.connected.Goals as goal

pub returns-in_err-add_component-clause-told : goal.returns-in_err-add_component-clause-told
returns-in_err-add_component-clause-told c =
    let pointed = c.args.pointed.now in
    let noted = c.add_component.new.refusals in
    let stop = c.in_err-add_component.field-0.0 in
    let long = ap length (c.components-number-end.ensures.components ∙ ap (λ (instance : Instance). instance.components) c.instance.ensures) in
    let within : c.loop-number.number < length pointed.instance.components = omega (arith, long, c.loop-number-test.true) in
    let told = tells-at pointed c.loop-number.number within c.loop-number.invariant.clear noted stop c.in_err-add_component.ensures.told in
    let p = err_from_is_err_and c.from_residual.result c.from_residual.ensures.1 in
    rw (p.1, p.2) told

pub returns-in_err-add_component-clause-linked : goal.returns-in_err-add_component-clause-linked
returns-in_err-add_component-clause-linked c =
    let pointed = c.args.pointed.now in
    let noted = c.add_component.new.refusals in
    let stop = c.in_err-add_component.field-0.0 in
    let long = ap length (c.components-number-end.ensures.components ∙ ap (λ (instance : Instance). instance.components) c.instance.ensures) in
    let within : c.loop-number.number < length pointed.instance.components = omega (arith, long, c.loop-number-test.true) in
    let told = tells-at pointed c.loop-number.number within c.loop-number.invariant.clear noted stop c.in_err-add_component.ensures.told in
    let p = err_from_is_err_and c.from_residual.result c.from_residual.ensures.1 in
    rw (p.1, p.2) (told-stops (faults_group pointed) (first_fault pointed) noted stop (faults-least pointed) told)

pub loop-number-preserved : goal.loop-number-preserved
loop-number-preserved c =
    let pointed = c.args.pointed.now in
    let long = ap length (c.components-number-end.ensures.components ∙ ap (λ (instance : Instance). instance.components) c.instance.ensures) in
    let within : c.loop-number.number < length pointed.instance.components = omega (arith, long, c.loop-number-test.true) in
    record {
      links = links-more pointed c.loop-number.number within c.loop-number.links c.add_component.new.links c.loop-number.invariant.links c.in_ok-add_component.ensures.linked;
      clear = clear-more pointed c.loop-number.number within c.loop-number.invariant.clear c.in_ok-add_component.ensures.linked.accepted;
    }

pub returns-clause-linked : goal.returns-clause-linked
returns-clause-linked c =
    let pointed = c.args.pointed.now in
    let long = ap length (c.components-number-end.ensures.components ∙ ap (λ (instance : Instance). instance.components) c.instance.ensures) in
    let past : length pointed.instance.components ≤ c.loop-number.number = omega (arith, long, c.loop-number-test.false) in
    record {
      are = c.loop-number.invariant.links ∙ ap (numbered_from (component_links pointed) 0) (take_all c.loop-number.number pointed.instance.components past);
      accepted = accepted-all pointed c.loop-number.number past c.loop-number.invariant.clear;
    }
