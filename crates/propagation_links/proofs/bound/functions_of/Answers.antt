use Rattle.std.proofs.Common.{ℕ, ◌<◌, ◌≤◌, List, [], ◌∷◌, ap, ◌∙◌, length, arith}
use Rattle.aadl_syntax.specs.declared.core_model.BindingKind.TheVariants.{Function}
use Rattle.profiles.specs.declared.profile.Profile.TheVariants.{Second}
use Rattle.instantiator.specs.declared.path.Component.{Component}
use Rattle.instantiator.specs.Whole.{Instance}
use Rattle.propagation_links.specs.declared.bound.BoundTo.{BoundTo}
use Rattle.propagation_links.specs.Bound.{bound_in}
use Rattle.propagation_links.proofs.BoundLaws.{all-rows, each-few, rows-more}
use Rattle.propagation_links.proofs.bound.functions_of.Goals as goal

abbrev give_in : Instance → ℕ → Component → List BoundTo
give_in instance = λ number component. bound_in Second instance Function number ∷ []

pub loop-number-preserved : goal.loop-number-preserved
loop-number-preserved c =
    let instance = c.args.tables.now in
    let give = give_in instance in
    let long = ap length (c.components-number-end.ensures.components ∙ ap (λ (its : Instance). its.components) c.instance.ensures) in
    let within : c.loop-number.number < length instance.components = omega (arith, long, c.loop-number-test.true) in
    let function = c.in_ok-function.ensures in
    rows-more instance give c.loop-number.number within c.loop-number.functions c.push.new.self (c.in_ok-function.function ∷ []) c.loop-number.invariant c.in_ok-push.ensures.ok (λ component j. function j ∷ [])

pub returns-clause-functions : goal.returns-clause-functions
returns-clause-functions c =
    let instance = c.args.tables.now in
    let long = ap length (c.components-number-end.ensures.components ∙ ap (λ (its : Instance). its.components) c.instance.ensures) in
    let past : length instance.components ≤ c.loop-number.number = omega (arith, long, c.loop-number-test.false) in
    all-rows instance (give_in instance) c.loop-number.number past c.loop-number.functions c.loop-number.invariant

pub returns-clause-few : goal.returns-clause-few
returns-clause-few c =
    let instance = c.args.tables.now in
    let long = ap length (c.components-number-end.ensures.components ∙ ap (λ (its : Instance). its.components) c.instance.ensures) in
    let past : length instance.components ≤ c.loop-number.number = omega (arith, long, c.loop-number-test.false) in
    let all = ap length (all-rows instance (give_in instance) c.loop-number.number past c.loop-number.functions c.loop-number.invariant) in
    let same = ap (λ (its : Instance). length its.components) c.instance.ensures in
    omega (arith, all, long, same, each-few instance (give_in instance) 2 (λ number component. omega arith), c.components-number-end.ensures.few)
