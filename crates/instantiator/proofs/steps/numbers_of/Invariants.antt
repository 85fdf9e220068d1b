use Rattle.std.proofs.Common.{take}
use Rattle.std.specs.HashMap.{get}
use Rattle.instantiator.specs.inner.Tables.{KnowsSteps, same_step}
use Rattle.instantiator.proofs.steps.numbers_of.Given as goal

abbrev pub invariant-loop-number : goal.invariant-loop-number
invariant-loop-number l = KnowsSteps (take l.number l.components) (get same_step l.table)
