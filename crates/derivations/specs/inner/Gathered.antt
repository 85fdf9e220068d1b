-- What is gathered of the formula of a step.
use Rattle.std.specs.Prelude.{ℕ, ◌≡◌, ◌||◌, List}
use Rattle.fault_system.specs.Truth.{NumberSet, set_of}

-- a list has the numbers that it had, and those of a set
abbrev pub HasMore : NumberSet → List ℕ → List ℕ → Type 0
HasMore more old new = (n : ℕ) → set_of new n ≡ set_of old n || more n
