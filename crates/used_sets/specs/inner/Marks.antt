-- Rows of marks.
use Rattle.std.specs.Prelude.{◌≡◌, ◌<◌, ℕ, Bool, false, ◌||◌, List, length, slice_index_or}

-- The marks after those of the numbers that pass a test were set.
pub record Marked (before after : List Bool) (test : ℕ → Bool) : Type 0 where
  pub long : length after ≡ length before
  pub marked : (number : ℕ) → number < length before → slice_index_or after number false ≡ (slice_index_or before number false || test number)
