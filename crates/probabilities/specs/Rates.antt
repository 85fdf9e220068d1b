-- What is known of the probabilities of events, in parts of a whole.
use Rattle.std.specs.Prelude.{ℕ, ◌*◌, ◌≤◌}

-- parts of the whole s: the least and the greatest probability of each event, and of its absence
pub record Rates : Type 0 where
  pub low : ℕ → ℕ
  pub high : ℕ → ℕ
  pub low_not : ℕ → ℕ
  pub high_not : ℕ → ℕ

-- the probability of each event, m e out of d, lies within the event's bounds
pub record IsWithin (s : ℕ) (rates : Rates) (d : ℕ) (m : ℕ → ℕ) : Type 0 where
  pub part : (e : ℕ) → m e ≤ d
  pub least : (e : ℕ) → rates.low e * d ≤ m e * s
  pub most : (e : ℕ) → m e * s ≤ rates.high e * d
