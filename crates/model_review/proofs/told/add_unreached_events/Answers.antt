use Rattle.std.proofs.Common.{◌<◌, ◌≤◌, ◌++◌, length, ap, ◌∙◌, arith}
use Rattle.fault_system.specs.Systems.{System}
use Rattle.instantiator.specs.Whole.{Instance}
use Rattle.model_review.specs.Told.{unreached_of}
use Rattle.model_review.proofs.Adding.{owner-end, owner-step}
use Rattle.model_review.proofs.told.add_unreached_events.Goals as goal

pub loop-owner-preserved : goal.loop-owner-preserved
loop-owner-preserved c =
    let view = c.args.view.now in
    let events = c.args.unreached.now in
    let all = view.numbered.assembly.instance.components in
    let long = ap length (c.components-owner-end.ensures.components ∙ ap (λ (instance : Instance). instance.components) c.instance.ensures) in
    let within : c.loop-owner.owner < length all = omega (arith, long, c.loop-owner-test.true) in
    let told = c.in_ok-add_unreached_of.ensures ∙ ap (λ (system : System). c.loop-owner.found ++ unreached_of system events c.loop-owner.owner) c.system-system.ensures in
    owner-step (unreached_of view.system events) all c.loop-owner.owner c.args.found.now c.loop-owner.found c.loop-owner.invariant within c.add_unreached_of.new.found told

pub returns : goal.returns
returns c =
    let view = c.args.view.now in
    let all = view.numbered.assembly.instance.components in
    let long = ap length (c.components-owner-end.ensures.components ∙ ap (λ (instance : Instance). instance.components) c.instance.ensures) in
    let past : length all ≤ c.loop-owner.owner = omega (arith, long, c.loop-owner-test.false) in
    owner-end (unreached_of view.system c.args.unreached.now) all c.loop-owner.owner c.args.found.now c.loop-owner.found c.loop-owner.invariant past
