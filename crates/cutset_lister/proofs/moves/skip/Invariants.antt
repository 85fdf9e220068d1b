use Rattle.std.proofs.Common.{◌-◌}
use Rattle.zdd_store.specs.inner.Family.{least_number}
use Rattle.zdd_store.specs.inner.Store.{family_of}
use Rattle.cutset_lister.proofs.Skipping.{Skipping}
use Rattle.cutset_lister.proofs.moves.skip.Given as goal

abbrev pub invariant-loop-k : goal.invariant-loop-k
invariant-loop-k g l = Skipping l.store l.fn.path l.path l.fn.family l.id l.after l.k l.fn.steps l.steps

abbrev pub decreases-loop-k : goal.decreases-loop-k
decreases-loop-k g l = 4294967296 - least_number (family_of l.store l.id)
