use Rattle.fault_system.specs.Truth.{member}
use Rattle.round_gates.proofs.Numbers.{numbers-next}
use Rattle.merged_gates.proofs.events.numbers_of.Goals as goal

pub loop-number-preserved : goal.loop-number-preserved
loop-number-preserved c = numbers-next (member c.args.marks.now) c.loop-number.number c.loop-number.numbers _ c.has.result c.has.ensures c.in_ok-push_if.ensures c.loop-number.invariant
