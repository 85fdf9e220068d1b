-- What decimals and numbers are worth, in parts of a whole, and when two numbers are near.
use Rattle.std.specs.Prelude.{ℕ, ◌+◌, ◌*◌, ◌^◌, ◌≤◌, ◌≡◌, ◌⊎◌}
use Rattle.decimals.specs.declared.decimal.Decimal.{Decimal}
use Rattle.decimals.specs.Numerals.{Number}

-- in parts of the whole
abbrev pub parts : Decimal → ℕ
parts x = x.mantissa * 10 ^ x.exponent

-- it is above the second by at most so many times one in the 17th digit
abbrev pub AreNear : ℕ → ℕ → ℕ → Type 0
AreNear times more less = more * 100000000000000000 ^ times ≤ less * 100000000000000001 ^ times

-- a number with zeros behind it has at most so many places behind the point of the whole: it is nothing, or has the other zeros
abbrev pub HavePlaces : ℕ → ℕ → ℕ → ℕ → Type 0
HavePlaces whole places number exponent = (number ≡ 0) ⊎ (whole ≤ exponent + places)

abbrev pub HasPlaces : ℕ → ℕ → Decimal → Type 0
HasPlaces whole places x = HavePlaces whole places x.mantissa x.exponent

-- what a number comes to in parts of the whole, and what a decimal does, both times what the number is divided by
abbrev pub number_parts : ℕ → Number → ℕ
number_parts whole number = number.digits * 10 ^ (number.raised + whole)

abbrev pub decimal_parts : Number → Decimal → ℕ
decimal_parts number x = parts x * 10 ^ number.lowered
