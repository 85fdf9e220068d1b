use Rattle.std.proofs.Common.{◌<◌, ◌≤◌, ap, get_or, sym, length, arith, None, [], ◌++◌, ◌∙◌}
use Rattle.std.proofs.lemmas.List.{get_or_default, take_all}
use Rattle.plain_values.specs.Numbered.{numbered_from}
use Rattle.package_index.proofs.Loops.{numbered-more}
use Rattle.instantiator.specs.declared.path.Component.{Component}
use Rattle.instantiator.specs.Whole.{Instance}
use Rattle.uneven_parts.specs.Quiet.{quiet_in}
use Rattle.uneven_parts.proofs.quiet.all_quiet.Goals as goal

pub loop-owner-preserved : goal.loop-owner-preserved
loop-owner-preserved c =
    let all = c.args.assembly.now.instance.components in
    let i = c.loop-owner.owner in
    let none : Component = record { path = []; classifier = None } in
    let component : Component = get_or all i none in
    let long = ap length (c.components-owner-end.ensures.components ∙ ap (λ (instance : Instance). instance.components) c.instance.ensures) in
    let within : i < length all = omega (arith, long, c.loop-owner-test.true) in
    let give = quiet_in c.args.all.now c.args.assembly.now c.args.facts.now in
    c.in_ok-add_component.ensures ∙ ap (λ front. front ++ give i component) c.loop-owner.invariant
    ∙ sym (numbered-more give all i component within (get_or_default all i none component within))

pub returns : goal.returns
returns c =
    let all = c.args.assembly.now.instance.components in
    let long = ap length (c.components-owner-end.ensures.components ∙ ap (λ (instance : Instance). instance.components) c.instance.ensures) in
    let past : length all ≤ c.loop-owner.owner = omega (arith, long, c.loop-owner-test.false) in
    c.loop-owner.invariant ∙ ap (numbered_from (quiet_in c.args.all.now c.args.assembly.now c.args.facts.now) 0) (take_all c.loop-owner.owner all past)
