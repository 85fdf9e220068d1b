-- How far apart bounds are.
use Rattle.std.specs.Prelude.{ℕ, ◌+◌, ◌*◌, ◌^◌, ◌≤◌, ◌≡◌, List, slice_get, Some}
use Rattle.decimals.specs.Decimals.{parts, AreNear, HasPlaces}
use Rattle.probabilities.specs.declared.rates.Bounds.{Bounds}
use Rattle.probabilities.specs.declared.rates.Rate.{Rate}
use Rattle.probabilities.specs.Decided.{FitsWhole}

-- the rate of an event has at most so many places, and its two ends are near by so many units of the 17th digit, as are those of its
-- absence; where the probability is exact, two units are enough
pub record IsNarrowRate (whole places units : ℕ) (rate : Rate) : Type 0 where
  pub fits : FitsWhole whole rate
  pub low_places : HasPlaces whole places rate.low
  pub high_places : HasPlaces whole places rate.high
  pub low_not_places : HasPlaces whole places rate.low_not
  pub high_not_places : HasPlaces whole places rate.high_not
  pub present : AreNear units (parts rate.high) (parts rate.low)
  pub absent : AreNear units (parts rate.high_not) (parts rate.low_not)

-- each rate of the list is so
abbrev pub AreNarrowRates : ℕ → ℕ → ℕ → List Rate → Type 0
AreNarrowRates whole places units list = (event : ℕ) (rate : Rate) → slice_get list event ≡ Some rate → IsNarrowRate whole places units rate

-- the bounds of a family over so many events are near, by four units of the 17th digit and those of the rate for each of them: by six where
-- each probability is exact
pub record AreNarrow (whole places units count : ℕ) (bounds : Bounds) : Type 0 where
  pub within : parts bounds.lower ≤ 10 ^ whole
  pub lower_places : HasPlaces whole (places * count) bounds.lower
  pub upper_places : HasPlaces whole (places * count) bounds.upper
  pub near : AreNear ((4 + units) * count) (parts bounds.upper) (parts bounds.lower)
