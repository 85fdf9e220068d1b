-- What it means that a number is rounded down or up.
use Rattle.std.specs.Prelude.{ℕ, ◌+◌, ◌*◌, ◌^◌, ◌<◌, ◌≤◌, ◌≡◌, ◌⊎◌, min}
use Rattle.decimals.specs.declared.rounding.Shortened.{Shortened}
use Rattle.decimals.specs.declared.rounding.Side.{Side}
use Rattle.decimals.specs.declared.rounding.Side.TheVariants.{Down, Up}

-- the first number is above the second by one in the 17th digit at most
abbrev pub IsNear : ℕ → ℕ → Type 0
IsNear more less = more * 100000000000000000 ≤ less * 100000000000000001

-- a number, rounded to so many of a part: it is less than one part away
abbrev pub IsCut : Side → ℕ → ℕ → ℕ → Type 0
IsCut Down n m part = (m * part ≤ n) × (n < (m + 1) * part)
IsCut Up n m part = (n ≤ m * part) × (m * part < n + part)

-- to the other side
abbrev pub opposite : Side → Side
opposite Down = Up
opposite Up = Down

-- what stands for so many parts of which all are too little, and for what is above the whole
abbrev pub least : Side → ℕ → ℕ
least Down m = 0
least Up m = m

abbrev pub most : Side → ℕ → ℕ
most Down whole = 0
most Up whole = whole

-- so many parts that one more or less is little beside them
abbrev pub long : Side → ℕ
long Down = 100000000000000000
long Up = 100000000000000001

-- the number without its last digits: no digit is dropped, or at least 18 are left
pub record IsShortened (side : Side) (n : ℕ) (x : Shortened) : Type 0 where
  pub short : x.mantissa ≤ 1000000000000000000
  pub cut : IsCut side n x.mantissa (10 ^ x.dropped)
  pub full : (x.dropped ≡ 0) ⊎ (long side ≤ x.mantissa)

-- a mantissa with zeros behind it, where they are no more than those of the whole
abbrev pub IsHeld : Side → ℕ → ℕ → ℕ → ℕ → Type 0
IsHeld side mantissa exponent whole worth = (worth ≡ mantissa * 10 ^ exponent) ⊎ ((0 < mantissa) × (whole < exponent) × (worth ≡ most side (10 ^ whole)))

-- at most the number; at least it, or the whole
abbrev pub IsBound : Side → ℕ → ℕ → ℕ → Type 0
IsBound Down whole n bound = bound ≤ n
IsBound Up whole n bound = min whole n ≤ bound

-- and near it, where it is twice the whole at most; near it
abbrev pub IsNearBound : Side → ℕ → ℕ → ℕ → Type 0
IsNearBound Down whole n bound = n ≤ 2 * whole → IsNear n bound
IsNearBound Up whole n bound = IsNear bound n
