-- Numbers with zeros behind them, which stand for a number that they are near to.
use Rattle.std.specs.Prelude.{ℕ, ◌*◌, ◌^◌, ◌≤◌, ◌≡◌, ◌⊎◌}
use Rattle.decimals.specs.declared.aligned.Aligned.{Aligned}
use Rattle.decimals.specs.declared.rounding.Side.{Side}
use Rattle.decimals.specs.inner.Decimals.{IsCut}

-- the number, rounded to the last place: it is exact, or has 19 digits
pub record IsAligned (side : Side) (n : ℕ) (x : Aligned) : Type 0 where
  pub short : x.number ≤ 2000000000000000000000000000000000000
  pub cut : IsCut side n x.number (10 ^ x.exponent)
  pub full : (n ≡ x.number * 10 ^ x.exponent) ⊎ (1000000000000000000 ≤ x.number)
