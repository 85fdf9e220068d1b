-- Lists of all numbers of which something is so.
use Rattle.std.specs.Prelude.{ℕ, ◌↔◌, List, Contains}
use Rattle.plain_values.specs.Rising.{RisesWithin}

-- the list has exactly the numbers of which this is so, rising, and all are below a bound
pub record AreAll (IsSo : ℕ → Type 0) (bound : ℕ) (numbers : List ℕ) : Type 0 where
  pub exact : (n : ℕ) → Contains numbers n ↔ IsSo n
  pub rise : RisesWithin 0 bound numbers
