use Rattle.std.proofs.Common.{◌∙◌}
use Rattle.fault_system.proofs.CutSetLaws.{needs_each-stops, needs_each-goes}
use Rattle.fault_system.proofs.system.FaultSystem.needs_each.Goals as goal

pub returns-then-branch : goal.returns-then-branch
returns-then-branch c =
    let before = c.loop-event.invariant in
    needs_each-stops c.args.self.now c.args.target c.args.set.now _ before.0 _ c.loop-event-test.true _ c.in_ok-holds_without.ensures.answer c.if-branch.true before.1

pub loop-event-preserved : goal.loop-event-preserved
loop-event-preserved c =
    let before = c.loop-event.invariant in (
      (λ n. c.in_ok-holds_without.ensures.same n ∙ before.0 n),
      needs_each-goes c.args.self.now c.args.target c.args.set.now _ before.0 _ c.loop-event-test.true _ c.in_ok-holds_without.ensures.answer c.if-branch.false before.1,
    )
