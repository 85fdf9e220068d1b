-- Rows of bits in words of 64.
use Rattle.std.specs.Prelude.{◌≡◌, ℕ, ◌*◌, ◌/◌, ◌%◌, ◌^◌, Bool, List, bit_or, cond, get_or, length, map, nat_eq, nat_lt, slice_set}
use Rattle.std.specs.Int.{bit_at}
use Rattle.plain_values.specs.Numbered.{numbers_below}

-- whether words have the bit of a number
abbrev pub bit_in : List ℕ → ℕ → Bool
bit_in words number = nat_eq (bit_at (get_or words (number / 64) 0) (number % 64)) 1

-- the bits of so many numbers
abbrev pub bits_of : ℕ → List ℕ → List Bool
bits_of count words = map (bit_in words) (numbers_below count)

-- the words with the bit of a number
abbrev pub with_bit : List ℕ → ℕ → List ℕ
with_bit words number = slice_set words (number / 64) (bit_or (get_or words (number / 64) 0) (1 * 2 ^ (number % 64) % 2 ^ 64))

-- Words to which those of another row were joined up to a place.
pub record Joins (words other now : List ℕ) (place : ℕ) : Type 0 where
  pub size : length now ≡ length words
  pub each : (k : ℕ) → get_or now k 0 ≡ cond (nat_lt k place) (bit_or (get_or words k 0) (get_or other k 0)) (get_or words k 0)
