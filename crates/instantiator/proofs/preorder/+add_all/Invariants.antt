use Rattle.std.proofs.Common.{◌-◌, length, take}
use Rattle.instantiator.specs.inner.Tables.{Grown}
use Rattle.instantiator.proofs.PreorderLaws.{walked}
use Rattle.instantiator.proofs.preorder.+add_all.Given as goal

abbrev pub decreases-add_all : goal.decreases-add_all
decreases-add_all l = 34 - length l.one.now.path

abbrev pub invariant-loop-part : goal.invariant-loop-part
invariant-loop-part l = Grown l.fn.draft l.draft (walked (33 - length l.one.path) l.fn.draft.kinds.packages l.one (take l.part-index l.part-items))
