use Rattle.std.proofs.Common.{take}
use Rattle.model_facts.specs.inner.Steps.{Marks}
use Rattle.model_facts.proofs.universe.mark_all.Given as goal

abbrev pub invariant-loop-number : goal.invariant-loop-number
invariant-loop-number l = Marks l.fn.marks (take l.number-index l.numbers) l.marks
