use Rattle.std.proofs.Common.{take}
use Rattle.std.specs.HashMap.{get}
use Rattle.uneven_parts.specs.Unlike.{same_likeness}
use Rattle.uneven_parts.specs.inner.Tables.{KnowsMembers}
use Rattle.uneven_parts.proofs.unlike.members_of.Given as goal

abbrev pub invariant-loop-number : goal.invariant-loop-number
invariant-loop-number l = KnowsMembers l.parts (take l.number l.facts) (get same_likeness l.rows)
