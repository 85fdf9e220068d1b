-- Numbers that were sorted, and of which each was kept once.
use Rattle.std.proofs.Common.{ℕ, ◌≡◌, eqb, List, Contains, IsPermutation, sym, subst}
use Rattle.std.specs.List.{dedup}
use Rattle.std.proofs.lemmas.List.Sorted.{Contains-permutation}
use Rattle.std.proofs.lemmas.List.Kept.{Contains-dedup_nat, Contains-from_dedup}
use Rattle.fault_system.specs.Truth.{set_of}
use Rattle.fault_system.proofs.NumberSets.{contained-in_set, set_of-contained}
use Rattle.fault_system.proofs.TruthLaws.{same_answer}

pub same-kept : (list sorted numbers : List ℕ) → list ≡ dedup eqb sorted → IsPermutation numbers sorted → IsPermutation sorted numbers → (n : ℕ) → set_of list n ≡ set_of numbers n
same-kept list sorted numbers kept permuted back n = same_answer _ _
    (λ h. contained-in_set numbers n (Contains-permutation sorted numbers n back (Contains-from_dedup eqb sorted n (subst (λ l. Contains l n) kept (set_of-contained list n h)))))
    (λ h. contained-in_set list n (subst (λ l. Contains l n) (sym kept) (Contains-dedup_nat sorted n (Contains-permutation numbers sorted n permuted (set_of-contained numbers n h)))))
