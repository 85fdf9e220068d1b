use Rattle.std.proofs.Common.{ℕ, ◌<◌, ◌≤◌, List, [], None, refl, ap, ◌∙◌, length, arith}
use Rattle.instantiator.specs.declared.path.Component.{Component}
use Rattle.instantiator.specs.Whole.{Instance}
use Rattle.propagation_links.specs.declared.bound.BoundTo.{BoundTo}
use Rattle.propagation_links.specs.Bound.{all_held_in}
use Rattle.propagation_links.proofs.BoundLaws.{all-rows, each-few, held-few, rows-more}
use Rattle.propagation_links.proofs.bound.held_of.Goals as goal

abbrev give_in : Instance → ℕ → Component → List BoundTo
give_in instance = λ number component. all_held_in instance number

pub loop-number-preserved : goal.loop-number-preserved
loop-number-preserved c =
    let instance = c.args.tables.now in
    let give = give_in instance in
    let long = ap length (c.components-number-end.ensures.components ∙ ap (λ (its : Instance). its.components) c.instance.ensures) in
    let within : c.loop-number.number < length instance.components = omega (arith, long, c.loop-number-test.true) in
    rows-more instance give c.loop-number.number within c.loop-number.held c.add_held.new.held (give c.loop-number.number (record { path = []; classifier = None })) c.loop-number.invariant c.in_ok-add_held.ensures (λ component. refl)

pub returns-clause-held : goal.returns-clause-held
returns-clause-held c =
    let instance = c.args.tables.now in
    let long = ap length (c.components-number-end.ensures.components ∙ ap (λ (its : Instance). its.components) c.instance.ensures) in
    let past : length instance.components ≤ c.loop-number.number = omega (arith, long, c.loop-number-test.false) in
    all-rows instance (give_in instance) c.loop-number.number past c.loop-number.held c.loop-number.invariant

pub returns-clause-few : goal.returns-clause-few
returns-clause-few c =
    let instance = c.args.tables.now in
    let long = ap length (c.components-number-end.ensures.components ∙ ap (λ (its : Instance). its.components) c.instance.ensures) in
    let past : length instance.components ≤ c.loop-number.number = omega (arith, long, c.loop-number-test.false) in
    let all = ap length (all-rows instance (give_in instance) c.loop-number.number past c.loop-number.held c.loop-number.invariant) in
    let same = ap (λ (its : Instance). length its.components) c.instance.ensures in
    omega (arith, all, long, same, each-few instance (give_in instance) 3 (λ number component. held-few instance number), c.components-number-end.ensures.few)
