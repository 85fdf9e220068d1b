-- What is known where one event occurs always, or never.
use Rattle.std.specs.Prelude.{ℕ, ◌-◌, ◌^◌, ◌*◌, ◌≤◌, ◌≡◌, List, length}
use Rattle.decimals.specs.Decimals.{parts}
use Rattle.zdd_store.specs.inner.Family.{Family, least_number}
use Rattle.probabilities.specs.declared.rates.Bounds.{Bounds}
use Rattle.probabilities.specs.declared.rates.Rate.{Rate}
use Rattle.probabilities.specs.Decided.{rates_of}
use Rattle.probabilities.specs.inner.Decided.{AreBoundsOf}
use Rattle.probabilities.specs.Widths.{AreNarrow, AreNarrowRates}
use Rattle.probabilities.specs.Sharp.{AreSharpRates}
use Rattle.probabilities.specs.inner.Sharp.{AreSharp}
use Rattle.probabilities.specs.Certain.{certain}

-- the rate of an event that occurs in so many parts of the whole
pub record IsCertain (whole k : ℕ) (rate : Rate) : Type 0 where
  pub low : parts rate.low ≡ k
  pub high : parts rate.high ≡ k
  pub low_not : parts rate.low_not ≡ 10 ^ whole - k
  pub high_not : parts rate.high_not ≡ 10 ^ whole - k

-- the two decimals bound the probability of a family where the event occurs in so many parts of the whole, are near where the rates
-- are, and near the probabilities at the ends of these
pub record AreCertainBounds (whole k : ℕ) (list : List Rate) (event : ℕ) (family : Family) (bounds : Bounds) : Type 0 where
  pub right : AreBoundsOf whole (certain (10 ^ whole) k event (rates_of whole list)) (length list) family bounds
  pub sharp : (places : ℕ) → AreSharpRates whole places list → places * length list ≤ whole → AreSharp whole places (certain (10 ^ whole) k event (rates_of whole list)) (length list) family bounds
  pub narrow : (places units : ℕ) → AreNarrowRates whole places units list → places * length list ≤ whole → AreNarrow whole places units (length list - least_number family) bounds
