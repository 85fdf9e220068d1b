-- How near bounds are to the probabilities that they bound.
use Rattle.std.specs.Prelude.{ℕ, ◌+◌, ◌-◌, ◌^◌, ◌≤◌, ◌≡◌, List, slice_get, Some}
use Rattle.decimals.specs.Decimals.{parts, AreNear, HasPlaces}
use Rattle.probabilities.specs.declared.rates.Rate.{Rate}

-- What is said of the absence of an event is what is left by the two bounds of its probability, up to one unit of the 17th digit; all
-- have at most so many places.
pub record IsSharpRate (whole places : ℕ) (rate : Rate) : Type 0 where
  pub least : parts rate.low_not + parts rate.low ≤ 10 ^ whole
  pub most : parts rate.high ≤ 10 ^ whole
  pub low_places : HasPlaces whole places rate.low
  pub high_places : HasPlaces whole places rate.high
  pub low_not_places : HasPlaces whole places rate.low_not
  pub high_not_places : HasPlaces whole places rate.high_not
  pub low_absent : AreNear 1 (10 ^ whole - parts rate.low) (parts rate.low_not)
  pub high_absent : AreNear 1 (parts rate.high_not) (10 ^ whole - parts rate.high)

-- each rate of the list is so
abbrev pub AreSharpRates : ℕ → ℕ → List Rate → Type 0
AreSharpRates whole places list = (event : ℕ) (rate : Rate) → slice_get list event ≡ Some rate → IsSharpRate whole places rate
