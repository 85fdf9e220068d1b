-- What is known where one event occurs always, or never.
use Rattle.std.specs.Prelude.{ℕ, ◌-◌, ◌==◌, if◌then◌else◌}
use Rattle.probabilities.specs.Rates.{Rates}

-- what is known where an event occurs k times out of s, and of the others what is known of them
abbrev pub certain : ℕ → ℕ → ℕ → Rates → Rates
certain s k event rates =
    record {
      low = λ e. if e == event then k else rates.low e;
      high = λ e. if e == event then k else rates.high e;
      low_not = λ e. if e == event then s - k else rates.low_not e;
      high_not = λ e. if e == event then s - k else rates.high_not e;
    }
