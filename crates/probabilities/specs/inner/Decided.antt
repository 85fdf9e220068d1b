-- Decimals that bound the probability of a family of a store.
use Rattle.std.specs.Prelude.{ℕ, ◌^◌, ◌<◌, ◌≤◌, ◌≡◌, List, [], ◌∷◌, length, slice_get, Some}
use Rattle.decimals.specs.declared.decimal.Decimal.{Decimal}
use Rattle.decimals.specs.Decimals.{parts}
use Rattle.zdd_store.specs.inner.Family.{Family, least_number}
use Rattle.probabilities.specs.declared.rates.Bounds.{Bounds}
use Rattle.probabilities.specs.declared.rates.Rate.{Rate}
use Rattle.probabilities.specs.Rates.{Rates}
use Rattle.probabilities.specs.inner.Rates.{AreRates}
use Rattle.probabilities.specs.inner.Bounded.{AreParts, IsLowerBound, IsUpperBound}
use Rattle.probabilities.specs.Decided.{FitsWhole}

-- the two decimals bound the probability of a family, and neither says more than the whole
pub record AreBoundsOf (whole : ℕ) (rates : Rates) (end : ℕ) (family : Family) (bounds : Bounds) : Type 0 where
  pub lower : IsLowerBound (10 ^ whole) rates end family (parts bounds.lower)
  pub upper : IsUpperBound (10 ^ whole) rates end family (parts bounds.upper)
  pub most : parts bounds.upper ≤ 10 ^ whole

-- each rate of the list does so
abbrev pub FitWhole : ℕ → List Rate → Type 0
FitWhole whole list = (event : ℕ) (rate : Rate) → slice_get list event ≡ Some rate → FitsWhole whole rate

-- the rate of an event, in decimals
pub record IsRateOf (rates : Rates) (event : ℕ) (rate : Rate) : Type 0 where
  pub low : rates.low event ≡ parts rate.low
  pub high : rates.high event ≡ parts rate.high
  pub low_not : rates.low_not event ≡ parts rate.low_not
  pub high_not : rates.high_not event ≡ parts rate.high_not

-- the list has the rates of the events, by their numbers
abbrev pub AreRated : List Rate → Rates → Type 0
AreRated list rates = (event : ℕ) (rate : Rate) → slice_get list event ≡ Some rate → IsRateOf rates event rate

-- a family has these parts at its first event, and the parts have these bounds
pub record IsStep (whole : ℕ) (rate : Rate) (lo hi : Bounds) (rates : Rates) (end event : ℕ) (family low high : Family) : Type 0 where
  pub right : AreRates (10 ^ whole) rates
  pub rated : IsRateOf rates event rate
  pub inside : event < end
  pub top : least_number family ≡ event
  pub parts : AreParts family event low high
  pub lo_bounds : AreBoundsOf whole rates end low lo
  pub hi_bounds : AreBoundsOf whole rates end high hi

-- the two decimals bound the probability of a family, whatever the events' probabilities are that have the rates of the list
abbrev pub BoundAll : ℕ → List Rate → Family → Bounds → Type 0
BoundAll whole list family bounds =
    (rates : Rates) → AreRates (10 ^ whole) rates → AreRated list rates → AreBoundsOf whole rates (length list) family bounds

-- a decimal is the whole, or nothing
abbrev pub IsWhole : ℕ → Decimal → Type 0
IsWhole whole x = (x.mantissa ≡ 1) × (x.exponent ≡ whole)

abbrev pub IsNothing : Decimal → Type 0
IsNothing x = x.mantissa ≡ 0

-- the bounds of the family without a set are nothing, and those of the family of the empty set are the whole
pub record AreEnds (whole : ℕ) (family : Family) (bounds : Bounds) : Type 0 where
  pub none : family ≡ [] → IsNothing bounds.lower × IsNothing bounds.upper
  pub full : family ≡ [] ∷ [] → IsWhole whole bounds.lower × IsWhole whole bounds.upper
