-- How near bounds are to the probabilities that they bound.
use Rattle.std.specs.Prelude.{ℕ, ◌+◌, ◌-◌, ◌*◌, ◌^◌, ◌≤◌, ◌≡◌, List, length}
use Rattle.decimals.specs.Decimals.{parts, AreNear, HasPlaces}
use Rattle.zdd_store.specs.inner.Family.{Family, least_number, covers}
use Rattle.probabilities.specs.declared.rates.Bounds.{Bounds}
use Rattle.probabilities.specs.declared.rates.Rate.{Rate}
use Rattle.probabilities.specs.Weights.{weight, numbers}
use Rattle.probabilities.specs.Rates.{Rates}
use Rattle.probabilities.specs.inner.Decided.{AreRated}
use Rattle.probabilities.specs.inner.Widths.{IsNearBelow, IsNearAbove}
use Rattle.probabilities.specs.Sharp.{IsSharpRate, AreSharpRates}

-- no event occurs more often than always
pub record AreParted (s : ℕ) (rates : Rates) : Type 0 where
  pub low : (e : ℕ) → rates.low e ≤ s
  pub high : (e : ℕ) → rates.high e ≤ s

-- The lower bound of a family is near its probability where each event occurs as seldom as it may, and the upper one near that where each
-- occurs as often: by three units of the 17th digit for each of the events from the first on.
pub record AreSharp (whole places : ℕ) (rates : Rates) (end : ℕ) (family : Family) (bounds : Bounds) : Type 0 where
  pub within : parts bounds.lower ≤ 10 ^ whole
  pub lower_places : HasPlaces whole (places * (end - least_number family)) bounds.lower
  pub upper_places : HasPlaces whole (places * (end - least_number family)) bounds.upper
  pub lower : (count first : ℕ) → first + count ≡ end → first ≤ least_number family
      → AreNear (3 * count) (weight (10 ^ whole) rates.low (numbers count first) (covers family) * 10 ^ whole) (parts bounds.lower * (10 ^ whole) ^ count)
  pub upper : (count first : ℕ) → first + count ≡ end → first ≤ least_number family
      → AreNear (3 * count) (parts bounds.upper * (10 ^ whole) ^ count) (weight (10 ^ whole) rates.high (numbers count first) (covers family) * 10 ^ whole)

-- they are, where the rates of the list are, and the whole has room for the places of all events
abbrev pub IsSharp : ℕ → List Rate → Family → Bounds → Type 0
IsSharp whole list family bounds =
    (rates : Rates) (places : ℕ) → AreParted (10 ^ whole) rates → AreRated list rates → AreSharpRates whole places list → places * length list ≤ whole
    → AreSharp whole places rates (length list) family bounds

-- what is made of the bounds of the parts, where the whole has room
abbrev pub IsSharpStep : ℕ → Rate → Bounds → Bounds → Bounds → Type 0
IsSharpStep whole rate lo hi result =
    (p q : ℕ) → IsSharpRate whole p rate → HasPlaces whole q lo.lower → HasPlaces whole q hi.lower → HasPlaces whole q lo.upper → HasPlaces whole q hi.upper → p + q ≤ whole
    → parts lo.lower ≤ 10 ^ whole → parts hi.lower ≤ 10 ^ whole
    → IsNearBelow whole (p + q) (parts rate.low_not * parts lo.lower + parts rate.low * parts hi.lower) result.lower
    × IsNearAbove whole (p + q) (parts rate.high_not * parts lo.upper + parts rate.high * parts hi.upper) result.upper
