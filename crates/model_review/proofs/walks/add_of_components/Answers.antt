use Rattle.std.proofs.Common.{ℕ, ◌<◌, ◌≤◌, length, ap, ◌∙◌, arith}
use Rattle.instantiator.specs.Whole.{Instance}
use Rattle.model_facts.specs.Assembly.{model_at}
use Rattle.model_review.proofs.Adding.{owner-end, owner-step}
use Rattle.model_review.proofs.walks.add_of_components.Goals as goal

pub loop-owner-preserved : goal.loop-owner-preserved
loop-owner-preserved g c =
    let view = c.args.view.now in
    let all = view.numbered.assembly.instance.components in
    let long = ap length (c.components-owner-end.ensures.components ∙ ap (λ (instance : Instance). instance.components) c.instance.ensures) in
    let within : c.loop-owner.owner < length all = omega (arith, long, c.loop-owner-test.true) in
    owner-step (λ (owner : ℕ). g.F.ComponentFinding.finding c.args.told.now view owner (model_at view.numbered.assembly owner)) all c.loop-owner.owner c.args.found.now c.loop-owner.found c.loop-owner.invariant within c.add_of_component.new.found c.in_ok-add_of_component.ensures

pub returns : goal.returns
returns g c =
    let view = c.args.view.now in
    let all = view.numbered.assembly.instance.components in
    let long = ap length (c.components-owner-end.ensures.components ∙ ap (λ (instance : Instance). instance.components) c.instance.ensures) in
    let past : length all ≤ c.loop-owner.owner = omega (arith, long, c.loop-owner-test.false) in
    owner-end (λ (owner : ℕ). g.F.ComponentFinding.finding c.args.told.now view owner (model_at view.numbered.assembly owner)) all c.loop-owner.owner c.args.found.now c.loop-owner.found c.loop-owner.invariant past
