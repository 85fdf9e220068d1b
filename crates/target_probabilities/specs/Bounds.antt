-- The bounds of the probability of a target, from the rates of events.
use Rattle.std.specs.Prelude.{ℕ, ◌≡◌, List, Option}
use Rattle.fault_system.specs.Systems.{System}
use Rattle.property_reader.specs.declared.rate.Rate.{Rate}
use Rattle.probabilities.specs.declared.rates.Bounds.{Bounds}
use Rattle.event_probabilities.specs.declared.finding.Found.{Found}
use Rattle.event_probabilities.specs.declared.rating.EventRate.{EventRate}
use Rattle.probability_lines.specs.declared.line.EventImportance.{EventImportance}
use Rattle.target_probabilities.specs.Probability.{AreKnown, AreTold, all_found, bounds_known}

-- A target has these bounds, parts of a whole with so many zeros, or none are found; some events have these importances; and this is found of
-- each event. They follow from the rates of the events and so many hours, if they are given.
pub record HasBounds (system : System) (rates : List Rate) (target : ℕ) (events : List ℕ) (hours : Option (List ℕ)) (whole : ℕ) (found : List Found) (bounds : Option Bounds) (importances : List EventImportance) : Type 0 where
  pub wide : whole ≡ 4000000000
  pub known : List EventRate
  pub are_known : AreKnown whole system rates hours known
  pub told : AreTold whole system target (bounds_known known) events bounds importances
  pub found_is : found ≡ all_found known
