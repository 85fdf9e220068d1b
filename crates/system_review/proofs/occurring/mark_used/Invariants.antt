use Rattle.std.proofs.Common.{ℕ, ◌≡◌, ◌<◌, ◌⊎◌, true, length}
use Rattle.fault_system.specs.Truth.{Has, member, occurs}
use Rattle.fault_system.specs.Systems.{IsFact}
use Rattle.fault_system.specs.declared.formula.FactInfo.{FactInfo}
use Rattle.system_review.specs.inner.Occurring.{IsUsedFact}
use Rattle.system_review.proofs.occurring.mark_used.Given as goal

abbrev pub invariant-loop-number : goal.invariant-loop-number
invariant-loop-number l = record {
  size : length l.marks ≡ length l.fn.marks;
  kept : (m : ℕ) → Has (member l.fn.marks) m → Has (member l.marks) m;
  right : (m : ℕ) → Has (member l.marks) m → Has (member l.fn.marks) m ⊎ IsUsedFact l.system m;
  done : (n m : ℕ) (fact : FactInfo) → n < l.number → IsFact l.system n fact → m < length l.fn.marks → occurs m fact.formula ≡ true → Has (member l.marks) m;
}
