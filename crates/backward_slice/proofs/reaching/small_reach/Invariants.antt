use Rattle.std.proofs.Common.{◌+◌, ◌-◌, length}
use Rattle.fault_system.specs.Truth.{count_true}
use Rattle.backward_slice.specs.inner.Marks.{IsMarking}
use Rattle.backward_slice.specs.inner.Reach.{all_ways}
use Rattle.backward_slice.proofs.reaching.small_reach.Given as goal

abbrev pub invariant-loop-number : goal.invariant-loop-number
invariant-loop-number l = IsMarking l.system all_ways l.from l.marking.facts l.marking.events l.marking.waiting.items

abbrev pub decreases-loop-number : goal.decreases-loop-number
decreases-loop-number l = length l.marking.waiting.items + length l.system.facts - count_true l.marking.facts
