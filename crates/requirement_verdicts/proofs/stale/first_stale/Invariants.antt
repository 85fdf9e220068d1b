use Rattle.std.proofs.Common.{take}
use Rattle.std.specs.List.{AllByRecursion}
use Rattle.requirement_verdicts.specs.Meanings.{IsFresh}
use Rattle.requirement_verdicts.proofs.stale.first_stale.Given as goal

abbrev pub invariant-loop-set : goal.invariant-loop-set
invariant-loop-set l = AllByRecursion (IsFresh l.system l.target l.least) (take l.set-index l.except)
