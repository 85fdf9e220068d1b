-- Bounds by a family of sets of at most so many events.
use Rattle.std.specs.Prelude.{ℕ, ◌≡◌, ◌⊎◌, Bool, List}
use Rattle.zdd_store.specs.inner.Family.{Family, IsAntichain, covers}
use Rattle.probabilities.specs.declared.rates.Bounds.{Bounds}
use Rattle.probabilities.specs.declared.rates.Rate.{Rate}
use Rattle.probabilities.specs.inner.Cofactors.{IsGivenUp}
use Rattle.order_bounds.specs.Orders.{AreBetween, or_more}

-- whether a set contains one of a family, or has more than so many of these events
abbrev pub covers_or_more : Family → ℕ → List ℕ → List ℕ → Bool
covers_or_more family = or_more (covers family)

-- at least how often what occurs contains a set of the family, and at most how often it does so or more than `most` of these events occur
abbrev pub AreOrderBounds : ℕ → List Rate → Family → ℕ → List ℕ → Bounds → Type 0
AreOrderBounds whole list family most events = AreBetween whole list (covers family) (covers_or_more family most events)

-- a family that covers what the condition holds for, of which no set is within another, and it is given up
pub record IsGivenUpAbove (count looked : ℕ) (condition : List ℕ → Bool) : Type 0 where
  pub family : Family
  pub covering : (set : List ℕ) → covers family set ≡ condition set
  pub apart : IsAntichain family
  pub given_up : IsGivenUp count looked family

-- why no bounds are answered: an event has no rate, or there are more cofactors than may come up, for one of the two
abbrev pub IsLeftOut : ℕ → ℕ → Family → ℕ → List ℕ → Type 0
IsLeftOut count looked family most events = IsGivenUp count looked family ⊎ IsGivenUpAbove count looked (covers_or_more family most events)
