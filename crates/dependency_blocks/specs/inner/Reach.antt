-- The facts on which facts depend, as sets, and the order of such sets.
use Rattle.std.specs.Prelude.{ℕ, ◌≡◌, ◌↔◌, Bool, true, false, List, [], ◌∷◌, length, map, Contains, slice_index_or}
use Rattle.fault_system.specs.Truth.{Has, member, count_true}
use Rattle.fault_system.specs.Systems.{System}
use Rattle.backward_slice.specs.Slices.{DependsOn}

-- exactly the facts on which a fact depends are marked
pub record IsReach (system : System) (from : ℕ) (marks : List Bool) : Type 0 where
  pub size : length marks ≡ length system.facts
  pub exact : (n : ℕ) → Has (member marks) n ↔ DependsOn system from n

-- of all facts of a system, each of some has the set of the facts on which it depends
pub record HaveReaches (system : System) (facts : List ℕ) (reaches : List (List Bool)) : Type 0 where
  pub long : length reaches ≡ length system.facts
  pub reach : (n : ℕ) → Contains facts n → IsReach system n (slice_index_or reaches n [])

-- whether a set comes before another: at the first place where they differ, the other has the number
abbrev pub comes_before : List Bool → List Bool → Bool
comes_before [] [] = false
comes_before [] (y ∷ ys) = true
comes_before (x ∷ xs) [] = false
comes_before (true ∷ xs) (true ∷ ys) = comes_before xs ys
comes_before (true ∷ xs) (false ∷ ys) = false
comes_before (false ∷ xs) (true ∷ ys) = true
comes_before (false ∷ xs) (false ∷ ys) = comes_before xs ys

-- how many of some sets come before one
abbrev pub rank_of : List (List Bool) → List Bool → ℕ
rank_of reaches own = count_true (map (λ other. comes_before other own) reaches)
