use Rattle.std.proofs.Common.{ℕ, ◌≡◌, ◌<◌, ◌⊎◌, true, false, length}
use Rattle.fault_system.specs.Truth.{Has, member, truth}
use Rattle.fault_system.specs.Systems.{IsFact}
use Rattle.fault_system.specs.Rounds.{only}
use Rattle.fault_system.specs.declared.formula.FactInfo.{FactInfo}
use Rattle.system_review.specs.inner.Single.{Begins}
use Rattle.system_review.proofs.single.mark_singles.Given as goal

abbrev pub invariant-loop-number : goal.invariant-loop-number
invariant-loop-number l = record {
  size : length l.marks ≡ length l.fn.marks;
  kept : (m : ℕ) → Has (member l.fn.marks) m → Has (member l.marks) m;
  right : (m : ℕ) → Has (member l.marks) m → Has (member l.fn.marks) m ⊎ Begins l.system (member l.facts) m;
  done : (n m : ℕ) (fact : FactInfo) → n < l.number → IsFact l.system n fact → m < length l.fn.marks → member l.facts n ≡ false → truth (only m) (member l.facts) fact.formula ≡ true → Has (member l.marks) m;
}
