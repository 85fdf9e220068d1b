use Rattle.std.proofs.Common.{take, false}
use Rattle.fault_system.specs.Truth.{set_of}
use Rattle.backward_slice.specs.inner.Marks.{Adds}
use Rattle.backward_slice.proofs.reaching.mark_all.Given as goal

abbrev pub invariant-loop-number : goal.invariant-loop-number
invariant-loop-number l = Adds (set_of (take l.number-index l.numbers)) (λ n. false) l.fn.marking l.marking
