use Rattle.std.proofs.Common.{ℕ, ◌+◌, ◌≡◌, ◌⊎◌, true, List, drop, map}
use Rattle.std.specs.List.{list_all, list_any}
use Rattle.fault_system.specs.Truth.{count_true, set_of, truth}
use Rattle.target_orders.specs.inner.Bounds.{IsMet, IsTally, met_facts}
use Rattle.target_orders.proofs.bounds.+bound.Given as goal

abbrev pub invariant-bound_of_all-loop-part : goal.invariant-bound_of_all-loop-part
invariant-bound_of_all-loop-part l =
    (set : List ℕ) → list_all (λ part. part) (map (truth (set_of set) (met_facts l.places l.bounds set)) l.parts) ≡ true → IsMet l.places set l.bound

abbrev pub invariant-bound_of_any-loop-part : goal.invariant-bound_of_any-loop-part
invariant-bound_of_any-loop-part l =
    (set : List ℕ) → list_any (λ part. part) (map (truth (set_of set) (met_facts l.places l.bounds set)) l.parts) ≡ true
    → IsMet l.places set l.bound ⊎ (list_any (λ part. part) (map (truth (set_of set) (met_facts l.places l.bounds set)) (drop l.part-index l.parts)) ≡ true)

abbrev pub invariant-tally_of-loop-part : goal.invariant-tally_of-loop-part
invariant-tally_of-loop-part l =
    (set : List ℕ) → (count : ℕ) × IsTally l.places set count l.tally
    × (count + count_true (map (truth (set_of set) (met_facts l.places l.bounds set)) (drop l.part-index l.parts)) ≡ count_true (map (truth (set_of set) (met_facts l.places l.bounds set)) l.parts))
