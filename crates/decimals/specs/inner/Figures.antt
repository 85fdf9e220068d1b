-- The first digits of numbers.
use Rattle.std.specs.Prelude.{ℕ, ◌+◌, ◌*◌, ◌^◌, ◌<◌, ◌≤◌, ◌≡◌, ◌⊎◌, false, Option, None, Some}
use Rattle.decimals.specs.declared.figures.Figures.{Figures}
use Rattle.decimals.specs.declared.numeral.Numeral.{Numeral}
use Rattle.decimals.specs.Numerals.{Number}

-- the first 18 digits of a number, how many are dropped behind them, and whether one of these is not 0
pub record AreFigures (n : ℕ) (x : Figures) : Type 0 where
  pub short : x.mantissa ≤ 999999999999999999
  pub least : x.mantissa * 10 ^ x.dropped ≤ n
  pub most : n < (x.mantissa + 1) * 10 ^ x.dropped
  pub exact : x.more ≡ false → n ≡ x.mantissa * 10 ^ x.dropped
  pub full : (x.dropped ≡ 0) ⊎ (100000000000000000 ≤ x.mantissa)
  pub kept : x.dropped ≡ 0 → x.more ≡ false

-- what was read is this number
pub record IsRead (number : Number) (x : Numeral) : Type 0 where
  pub figures : AreFigures number.digits x.figures
  pub raised : number.raised ≡ x.raised
  pub lowered : number.lowered ≡ x.lowered

-- what was read is the number that a text is, if it is one
abbrev pub IsReadAs : Option Number → Option Numeral → Type 0
IsReadAs None None = Unit {0}
IsReadAs None (Some x) = ⊥
IsReadAs (Some number) None = ⊥
IsReadAs (Some number) (Some x) = IsRead number x
