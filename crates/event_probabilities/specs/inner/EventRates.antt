-- What the rate of an event says of its probability.
use Rattle.std.specs.Prelude.{ℕ, ◌^◌, ◌≤◌}
use Rattle.decimals.specs.Decimals.{parts, AreNear, number_parts, decimal_parts}
use Rattle.decimals.specs.Numerals.{Number}
use Rattle.exponentials.specs.declared.span.Span.{Span}
use Rattle.exponentials.specs.inner.Widths.{IsNarrow}

-- bounds of a number, in parts of the whole
pub record IsSpanOf (whole : ℕ) (number : Number) (span : Span) : Type 0 where
  pub low : decimal_parts number span.low ≤ number_parts whole number
  pub high : number_parts whole number ≤ decimal_parts number span.high

-- bounds of a number are near, and the upper one is near the number
pub record IsNarrowSpan (whole places : ℕ) (number : Number) (span : Span) : Type 0 where
  pub narrow : IsNarrow whole places 2 span
  pub above : AreNear 1 (decimal_parts number span.high) (number_parts whole number)

-- bounds of lambda times hours are near, and no more than the whole
pub record IsNarrowExposure (whole places : ℕ) (span : Span) : Type 0 where
  pub narrow : IsNarrow whole places 6 span
  pub within : parts span.high ≤ 10 ^ whole
