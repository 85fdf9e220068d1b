use Rattle.std.proofs.Common.{take}
use Rattle.forbidden_sets.specs.inner.Families.{Gathers}
use Rattle.forbidden_sets.proofs.families.sets_family.Given as goal

abbrev pub invariant-loop-set : goal.invariant-loop-set
invariant-loop-set l = Gathers l.fn.store l.store (take l.set-index l.sets) l.all
