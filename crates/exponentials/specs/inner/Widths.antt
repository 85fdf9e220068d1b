-- How far apart bounds are.
use Rattle.std.specs.Prelude.{ℕ, ◌+◌, ◌*◌, ◌^◌, ◌≤◌, ◌≡◌}
use Rattle.decimals.specs.Decimals.{parts, AreNear, HasPlaces}
use Rattle.exponentials.specs.declared.span.Span.{Span}
use Rattle.exponentials.specs.declared.series.Terms.{Terms}
use Rattle.exponentials.specs.Exponentials.{below}

-- two bounds have at most so many places, and the upper one is no less than the lower one, and above it by at most so many times one in
-- the 17th digit
pub record IsNarrow (whole places units : ℕ) (span : Span) : Type 0 where
  pub low_places : HasPlaces whole places span.low
  pub high_places : HasPlaces whole places span.high
  pub order : parts span.low ≤ parts span.high
  pub near : AreNear units (parts span.high) (parts span.low)

-- So many terms are narrow, and so are their sums; the last term is small, the sums are three fourths of the whole at most, and the terms
-- with the sign of the first come to no less than the others.
pub record AreNarrowTerms (whole places units n : ℕ) (terms : Terms) : Type 0 where
  pub term : IsNarrow whole (n * (places + 18)) (n * (units + 50)) terms.term
  pub latest : IsNarrow whole (n * (places + 18)) (n * (units + 52)) terms.latest
  pub other : IsNarrow whole (n * (places + 18)) (n * (units + 52)) terms.other
  pub small : parts terms.term.low * below 1 n ≤ 10 ^ whole
  pub few : 4 * (parts terms.latest.low + parts terms.other.low) + 2 * parts terms.term.low ≤ 3 * 10 ^ whole
  pub odd : (k : ℕ) → n ≡ 2 * k + 1 → parts terms.other.low + parts terms.term.low ≤ parts terms.latest.high
  pub even : (k : ℕ) → n ≡ 2 * k → parts terms.latest.low ≤ parts terms.other.high
  pub begun : n ≡ 0 → parts terms.latest.low + parts terms.other.low ≡ 0
