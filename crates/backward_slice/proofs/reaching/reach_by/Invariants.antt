use Rattle.std.proofs.Common.{◌+◌, ◌-◌, length}
use Rattle.fault_system.specs.Truth.{count_true}
use Rattle.backward_slice.specs.inner.Marks.{IsMarking}
use Rattle.backward_slice.proofs.reaching.reach_by.Given as goal

abbrev pub invariant-loop-number : goal.invariant-loop-number
invariant-loop-number g l = IsMarking l.system (g.W.Ways.ways l.ways) l.from l.marking.facts l.marking.events l.marking.waiting.items

abbrev pub decreases-loop-number : goal.decreases-loop-number
decreases-loop-number g l = length l.marking.waiting.items + length l.system.facts - count_true l.marking.facts
