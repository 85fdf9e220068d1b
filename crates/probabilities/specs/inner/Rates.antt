-- What is known of the probabilities of events, in parts of a whole.
use Rattle.std.specs.Prelude.{ℕ, ◌+◌, ◌≤◌}
use Rattle.probabilities.specs.Rates.{Rates}

-- together with its absence the least probability of an event is the whole at most, and the greatest is at least the whole
pub record AreRates (s : ℕ) (rates : Rates) : Type 0 where
  pub least : (e : ℕ) → rates.low_not e + rates.low e ≤ s
  pub most : (e : ℕ) → s ≤ rates.high_not e + rates.high e
