-- The bounds of the probability of a target by its smallest minimal cut sets, from the rates of events.
use Rattle.std.specs.Prelude.{ℕ, ◌≡◌, List, [], Option}
use Rattle.fault_system.specs.Systems.{System}
use Rattle.property_reader.specs.declared.rate.Rate.{Rate}
use Rattle.probabilities.specs.declared.rates.Bounds.{Bounds}
use Rattle.event_probabilities.specs.declared.finding.Found.{Found}
use Rattle.event_probabilities.specs.declared.rating.EventRate.{EventRate}
use Rattle.probability_lines.specs.declared.line.EventImportance.{EventImportance}
use Rattle.target_probabilities.specs.Probability.{AreKnown, all_found, bounds_known}
use Rattle.order_bounds.specs.Targets.{AreToldToOrder}

-- As HasBounds of target_probabilities, by the minimal cut sets of at most so many of these events. No importance is told.
pub record HasBoundsToOrder (system : System) (rates : List Rate) (target : ℕ) (events : List ℕ) (hours : Option (List ℕ)) (most whole : ℕ) (found : List Found) (bounds : Option Bounds) (importances : List EventImportance) : Type 0 where
  pub wide : whole ≡ 4000000000
  pub known : List EventRate
  pub are_known : AreKnown whole system rates hours known
  pub told : AreToldToOrder whole system target events (bounds_known known) most bounds
  pub found_is : found ≡ all_found known
  pub alone : importances ≡ []
