use Rattle.std.proofs.Common.{refl}
use Rattle.fault_system.specs.Truth.{member}
use Rattle.derivations.proofs.Used.{made-next}
use Rattle.derivations.proofs.by_rounds.steps_at.Goals as goal

pub loop-fact-preserved : goal.loop-fact-preserved
loop-fact-preserved c =
    made-next c.args.system.now (member c.args.events.now) c.args.rounds.now c.args.places.now c.args.order.now c.loop-fact.steps c.push.new.self c.in_ok-step.step c.loop-fact.fact-index _ _
    c.loop-fact-test.true refl c.in_ok-step.ensures.fact c.in_ok-step.ensures.made c.in_ok-push.ensures.ok c.loop-fact.invariant
