-- Bounds of how often two conditions on what occurs hold.
use Rattle.std.specs.Prelude.{ℕ, ◌+◌, ◌*◌, ◌^◌, ◌≤◌, Bool, ◌||◌, nat_le, List, length, map}
use Rattle.fault_system.specs.Truth.{count_true, set_of}
use Rattle.decimals.specs.Decimals.{parts, AreNear}
use Rattle.probabilities.specs.declared.rates.Bounds.{Bounds}
use Rattle.probabilities.specs.declared.rates.Rate.{Rate}
use Rattle.probabilities.specs.Decided.{rates_of}
use Rattle.probabilities.specs.Rates.{Rates, IsWithin}
use Rattle.probabilities.specs.Sharp.{AreSharpRates}
use Rattle.probabilities.specs.Weights.{weight, numbers}

-- whether a set has more than so many of these events
abbrev pub has_more : ℕ → List ℕ → List ℕ → Bool
has_more most events set = nat_le (most + 1) (count_true (map (set_of set) events))

-- whether a condition holds for it, or it has more than so many of these events
abbrev pub or_more : (List ℕ → Bool) → ℕ → List ℕ → List ℕ → Bool
or_more condition most events set = condition set || has_more most events set

-- Of so many events, out of d ^ end times, how often a condition holds, where each event e occurs m e times out of d.
abbrev pub times : ℕ → ℕ → (ℕ → ℕ) → (List ℕ → Bool) → ℕ
times end d m condition = weight d m (numbers end 0) condition

-- The two decimals are near to what they bound, by three units of the 17th digit for each event: the lower one where each event occurs as
-- seldom as it may, and the upper one where each occurs as often.
pub record AreSharpOrders (whole end : ℕ) (rates : Rates) (below above : List ℕ → Bool) (bounds : Bounds) : Type 0 where
  pub lower : AreNear (3 * end) (times end (10 ^ whole) rates.low below * 10 ^ whole) (parts bounds.lower * (10 ^ whole) ^ end)
  pub upper : AreNear (3 * end) (parts bounds.upper * (10 ^ whole) ^ end) (times end (10 ^ whole) rates.high above * 10 ^ whole)

-- Two decimals bound a probability, whatever those of the events are within their bounds: so many parts of the whole are at most how often the
-- first condition holds, and at least how often the second one does; they are the whole at most, and near, where the rates are sharp and the
-- whole has room for the places of all events.
pub record AreBetween (whole : ℕ) (list : List Rate) (below above : List ℕ → Bool) (bounds : Bounds) : Type 0 where
  pub lower : (d : ℕ) (m : ℕ → ℕ) → IsWithin (10 ^ whole) (rates_of whole list) d m → parts bounds.lower * d ^ length list ≤ times (length list) d m below * 10 ^ whole
  pub upper : (d : ℕ) (m : ℕ → ℕ) → IsWithin (10 ^ whole) (rates_of whole list) d m → times (length list) d m above * 10 ^ whole ≤ parts bounds.upper * d ^ length list
  pub most : parts bounds.upper ≤ 10 ^ whole
  pub sharp : (places : ℕ) → AreSharpRates whole places list → places * length list ≤ whole → AreSharpOrders whole (length list) (rates_of whole list) below above bounds
