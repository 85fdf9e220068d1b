-- Blocks of facts that depend on one another.
use Rattle.std.specs.Prelude.{ℕ, ◌<◌, ◌≤◌, ◌≡◌, ◌↔◌, true, List, Contains, count_by, slice_index_or, ◌==◌}
use Rattle.fault_system.specs.Truth.{occurs}
use Rattle.fault_system.specs.Systems.{System, IsFact}
use Rattle.fault_system.specs.declared.formula.FactInfo.{FactInfo}
use Rattle.backward_slice.specs.Slices.{DependsOn}

-- the number of the block of each fact; 2 ^ 32 - 1 for a fact in none
abbrev pub BlockNumbers : Type 0
BlockNumbers = List ℕ

-- the number of the block of a fact; 2 ^ 32 - 1 where it is in none
abbrev pub number_of : BlockNumbers → ℕ → ℕ
number_of numbers fact = slice_index_or numbers fact 4294967295

-- how many facts are in a block
abbrev pub size_of : BlockNumbers → ℕ → ℕ
size_of numbers block = count_by (λ n. n == block) numbers

-- Exactly some facts are in blocks. Two of them are in one block exactly if each depends on the other, and a
-- fact depends on blocks of lower numbers and on its own alone.
pub record IsBlocks (system : System) (facts : List ℕ) (numbers : BlockNumbers) : Type 0 where
  pub inside : (n : ℕ) → Contains facts n ↔ (number_of numbers n < 4294967295)
  pub mutual_reach : (n m : ℕ) → Contains facts n → Contains facts m → (number_of numbers n ≡ number_of numbers m) ↔ (DependsOn system n m × DependsOn system m n)
  pub falls : (n m : ℕ) (fact : FactInfo) → Contains facts n → IsFact system n fact → occurs m fact.formula ≡ true → number_of numbers m ≤ number_of numbers n
