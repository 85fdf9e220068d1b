-- Loops of facts, and what is so where there are none.
use Rattle.std.specs.Prelude.{ℕ, ◌<◌, ◌≤◌, ◌≡◌, ◌≢◌, ◌⊎◌, ◌↔◌, true, List, length, map, Contains}
use Rattle.plain_values.specs.Rising.{RisesWithin}
use Rattle.fault_system.specs.Truth.{occurs}
use Rattle.fault_system.specs.Systems.{System, IsFact}
use Rattle.fault_system.specs.declared.formula.FactInfo.{FactInfo}
use Rattle.backward_slice.specs.Slices.{DependsOn}
use Rattle.system_review.specs.Listed.{AreAll}
use Rattle.system_review.specs.declared.looping.Loop.{Loop}

-- two facts depend on each other
abbrev pub AreMutual : System → ℕ → ℕ → Type 0
AreMutual system a b = DependsOn system a b × DependsOn system b a

-- a fact stands in a loop: another fact and it depend on each other, or it occurs in its own formula
abbrev pub IsInLoop : System → ℕ → Type 0
IsInLoop system n =
    ((m : ℕ) × (m ≢ n) × AreMutual system n m)
    ⊎ ((fact : FactInfo) × IsFact system n fact × (occurs n fact.formula ≡ true))

-- A loop of a system: all facts that depend on one another with a fact which stands in a loop. It is told by the first of them, and
-- how many they are.
pub record IsLoop (system : System) (loop : Loop) : Type 0 where
  pub inside : loop.first < length system.facts
  pub looped : IsInLoop system loop.first
  pub first : (n : ℕ) → AreMutual system loop.first n → loop.first ≤ n
  pub size : (facts : List ℕ) × AreAll (AreMutual system loop.first) (length system.facts) facts × (length facts ≡ loop.size)

-- exactly the loops of a system, in the order of their first facts
pub record AreLoops (system : System) (loops : List Loop) : Type 0 where
  pub exact : (loop : Loop) → Contains loops loop ↔ IsLoop system loop
  pub rise : RisesWithin 0 (length system.facts) (map (λ loop. loop.first) loops)
