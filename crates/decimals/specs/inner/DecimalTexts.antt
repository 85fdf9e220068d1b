-- Decimals as texts that any program reads: their digits, with a point behind the first, and a power of ten.
use Rattle.std.specs.Prelude.{ℕ, List, ◌≡◌, Some}
use Rattle.decimals.specs.declared.decimal.Decimal.{Decimal}
use Rattle.decimals.specs.Numerals.{Number, number_of}
use Rattle.decimals.specs.Decimals.{number_parts, decimal_parts}

-- a text is a number, of the same worth
pub record ReadsBack (whole : ℕ) (x : Decimal) (text : List ℕ) : Type 0 where
  pub number : Number
  pub read : number_of text ≡ Some number
  pub same : decimal_parts number x ≡ number_parts whole number
