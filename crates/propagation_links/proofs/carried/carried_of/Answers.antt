use Rattle.std.proofs.Common.{ℕ, ◌<◌, ◌≤◌, List, refl, ap, ◌∙◌, length, arith}
use Rattle.instantiator.specs.declared.path.Component.{Component}
use Rattle.instantiator.specs.Whole.{Instance}
use Rattle.propagation_links.specs.Bound.{carried_in}
use Rattle.propagation_links.specs.Stated.{Carried}
use Rattle.propagation_links.proofs.BoundLaws.{all-rows, rows-more}
use Rattle.propagation_links.proofs.carried.carried_of.Goals as goal

abbrev give_in : Instance → ℕ → Component → List Carried
give_in instance = λ number component. carried_in instance number

pub loop-number-preserved : goal.loop-number-preserved
loop-number-preserved c =
    let instance = c.args.tables.now in
    let long = ap length (c.components-number-end.ensures.components ∙ ap (λ (its : Instance). its.components) c.instance.ensures) in
    let within : c.loop-number.number < length instance.components = omega (arith, long, c.loop-number-test.true) in
    rows-more instance (give_in instance) c.loop-number.number within c.loop-number.carried c.add_component.new.carried (carried_in instance c.loop-number.number) c.loop-number.invariant c.in_ok-add_component.ensures (λ component. refl)

pub returns : goal.returns
returns c =
    let instance = c.args.tables.now in
    let long = ap length (c.components-number-end.ensures.components ∙ ap (λ (its : Instance). its.components) c.instance.ensures) in
    let past : length instance.components ≤ c.loop-number.number = omega (arith, long, c.loop-number-test.false) in
    all-rows instance (give_in instance) c.loop-number.number past c.loop-number.carried c.loop-number.invariant
