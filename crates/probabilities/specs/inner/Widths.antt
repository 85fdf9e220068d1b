-- How far apart bounds are.
use Rattle.std.specs.Prelude.{ℕ, ◌-◌, ◌*◌, ◌^◌, ◌≤◌, List, length}
use Rattle.decimals.specs.declared.decimal.Decimal.{Decimal}
use Rattle.decimals.specs.Decimals.{parts, AreNear, HasPlaces}
use Rattle.zdd_store.specs.inner.Family.{Family, least_number}
use Rattle.probabilities.specs.declared.rates.Bounds.{Bounds}
use Rattle.probabilities.specs.declared.rates.Rate.{Rate}
use Rattle.probabilities.specs.Widths.{AreNarrowRates, AreNarrow}

-- they are, where each rate is narrow and the whole has room for the places of all events
abbrev pub IsNarrowed : ℕ → List Rate → Family → Bounds → Type 0
IsNarrowed whole list family bounds =
    (places units : ℕ) → AreNarrowRates whole places units list → places * length list ≤ whole → AreNarrow whole places units (length list - least_number family) bounds

-- so many parts of the whole, times the whole, are near a sum of products, and below it
pub record IsNearBelow (whole places exact : ℕ) (x : Decimal) : Type 0 where
  pub within : parts x ≤ 10 ^ whole
  pub few : HasPlaces whole places x
  pub near : AreNear 2 exact (10 ^ whole * parts x)

-- or above it
pub record IsNearAbove (whole places exact : ℕ) (x : Decimal) : Type 0 where
  pub few : HasPlaces whole places x
  pub near : AreNear 2 (10 ^ whole * parts x) exact
