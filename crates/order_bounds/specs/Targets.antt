-- Bounds of the probability of a target by its minimal cut sets of at most so many events.
use Rattle.std.specs.Prelude.{ℕ, ◌≤◌, ◌≡◌, ◌↔◌, ◌⊎◌, Bool, true, List, length, Option, None, Some}
use Rattle.fault_system.specs.Systems.{System}
use Rattle.fault_system.specs.CutSets.{IsMinimalCutSet, IsSubset}
use Rattle.probabilities.specs.declared.rates.Bounds.{Bounds}
use Rattle.probabilities.specs.declared.rates.Rate.{Rate}
use Rattle.probabilities.specs.Decided.{rates_of}
use Rattle.target_probabilities.specs.Probability.{BoundTarget, HasMoreCases, most_cases}
use Rattle.order_bounds.specs.Orders.{AreBetween, or_more}

-- A set contains a minimal cut set of a target that has at most so many events.
pub record HasShortCutSet (system : System) (target most : ℕ) (set : List ℕ) : Type 0 where
  pub cut : List ℕ
  pub minimal : IsMinimalCutSet system target cut
  pub short : length cut ≤ most
  pub within : IsSubset cut set

-- the condition holds for exactly these sets
abbrev pub IsOfShortCutSets : System → ℕ → ℕ → (List ℕ → Bool) → Type 0
IsOfShortCutSets system target most condition = (set : List ℕ) → (condition set ≡ true) ↔ HasShortCutSet system target most set

-- The two decimals bound the probability of a target. And they are as near as it is known to how often what occurs contains a minimal cut set of at
-- most so many events, and to how often it does so or has more of the events on which the target depends.
pub record AreBoundsToOrder (whole : ℕ) (system : System) (target : ℕ) (events : List ℕ) (list : List Rate) (most : ℕ) (bounds : Bounds) : Type 0 where
  pub bound : BoundTarget whole system target (rates_of whole list) bounds
  pub condition : List ℕ → Bool
  pub short : IsOfShortCutSets system target most condition
  pub near : AreBetween whole list condition (or_more condition most events) bounds

-- Why none are answered: one of these two conditions has more cases than are looked at.
pub record HasMoreToOrder (system : System) (target : ℕ) (events : List ℕ) (most : ℕ) : Type 0 where
  pub condition : List ℕ → Bool
  pub short : IsOfShortCutSets system target most condition
  pub more : HasMoreCases most_cases condition ⊎ HasMoreCases most_cases (or_more condition most events)

-- What is told of a target that depends on these events, by its minimal cut sets of at most so many: bounds, or none, and then there are more
-- cases than are looked at.
abbrev pub AreToldToOrder : ℕ → System → ℕ → List ℕ → List Rate → ℕ → Option Bounds → Type 0
AreToldToOrder whole system target events list most None = HasMoreToOrder system target events most
AreToldToOrder whole system target events list most (Some bounds) = AreBoundsToOrder whole system target events list most bounds
