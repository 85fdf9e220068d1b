use Rattle.std.proofs.Common.{ℕ, nat_eq}
use Rattle.std.specs.HashSet.{contains}
use Rattle.system_review.specs.inner.Steps.{IsWithin}
use Rattle.system_review.proofs.followed.add_in_order.Given as goal

abbrev pub invariant-loop-place : goal.invariant-loop-place
invariant-loop-place l = (cause : ℕ) → IsWithin l.system l.among cause 0 (contains nat_eq l.fn.found.numbers) → IsWithin l.system l.among cause l.place-index (contains nat_eq l.found.numbers)
