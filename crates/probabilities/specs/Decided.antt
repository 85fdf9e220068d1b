-- Decimals that bound the probability of a family of a store.
use Rattle.std.specs.Prelude.{ℕ, ◌+◌, ◌^◌, ◌≤◌, List, slice_get, Option, None, Some}
use Rattle.decimals.specs.Decimals.{parts}
use Rattle.probabilities.specs.declared.rates.Rate.{Rate}
use Rattle.probabilities.specs.Rates.{Rates}

-- together with its absence the least probability of an event is the whole at most, and the greatest is at least the whole
pub record FitsWhole (whole : ℕ) (rate : Rate) : Type 0 where
  pub least : parts rate.low_not + parts rate.low ≤ 10 ^ whole
  pub most : 10 ^ whole ≤ parts rate.high_not + parts rate.high

-- what is known of the probabilities of an event that has this rate; without one, nothing
abbrev pub low_of : Option Rate → ℕ
low_of None = 0
low_of (Some rate) = parts rate.low

abbrev pub high_of : ℕ → Option Rate → ℕ
high_of whole None = 10 ^ whole
high_of whole (Some rate) = parts rate.high

abbrev pub low_not_of : Option Rate → ℕ
low_not_of None = 0
low_not_of (Some rate) = parts rate.low_not

abbrev pub high_not_of : ℕ → Option Rate → ℕ
high_not_of whole None = 10 ^ whole
high_not_of whole (Some rate) = parts rate.high_not

-- what a list of rates says of the events, by their numbers
abbrev pub rates_of : ℕ → List Rate → Rates
rates_of whole list =
    record {
      low = λ event. low_of (slice_get list event);
      high = λ event. high_of whole (slice_get list event);
      low_not = λ event. low_not_of (slice_get list event);
      high_not = λ event. high_not_of whole (slice_get list event);
    }
