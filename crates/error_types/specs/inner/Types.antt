-- Beside specs/Types.antt: what no clause of `run` reaches.
use Rattle.std.specs.Prelude.{ℕ, Bool, ◌&&◌, nat_lt, List, length, slice_get, Option, option_and_then}
use Rattle.error_types.specs.Types.{is_below_in}

-- ---- the table of bases

-- the type that the type of a number extends, in a list of these
abbrev pub base_in : List (Option ℕ) → ℕ → Option ℕ
base_in bases number = option_and_then (λ base. base) (slice_get bases number)

-- whether a type is below another, by the list of what the types extend
abbrev pub is_below_by : List (Option ℕ) → ℕ → ℕ → Bool
is_below_by bases low high = (nat_lt low (length bases) && nat_lt high (length bases)) && is_below_in (length bases) (base_in bases) low high
