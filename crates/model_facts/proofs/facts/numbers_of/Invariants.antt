use Rattle.std.proofs.Common.{take}
use Rattle.std.specs.HashMap.{get}
use Rattle.package_index.specs.inner.Tables.{Knows}
use Rattle.model_facts.specs.Facts.{same_fact}
use Rattle.model_facts.proofs.facts.numbers_of.Given as goal

abbrev pub invariant-loop-number : goal.invariant-loop-number
invariant-loop-number l = Knows same_fact (take l.number l.facts) (get same_fact l.numbers)
