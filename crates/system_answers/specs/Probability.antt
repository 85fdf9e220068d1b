-- The text of the probability of a target.
use Rattle.std.specs.Prelude.{ℕ, ◌≡◌, Bool, List, [], Option, None, Some}
use Rattle.fault_system.specs.Systems.{System}
use Rattle.property_reader.specs.declared.rate.Rate.{Rate}
use Rattle.probabilities.specs.declared.rates.Bounds.{Bounds}
use Rattle.probabilities.specs.declared.rates.Rate.{Rate as EventBounds}
use Rattle.event_probabilities.specs.declared.rating.EventRate.{EventRate}
use Rattle.probability_lines.specs.declared.line.EventImportance.{EventImportance}
use Rattle.probability_lines.specs.Gathered.{lines_of}
use Rattle.probability_lines.specs.ProbabilityText.{lines_text}
use Rattle.target_probabilities.specs.Probability.{AreKnown, AreTold, all_found, bounds_known, told_events}
use Rattle.order_bounds.specs.Targets.{AreToldToOrder}

-- What is told of a target that depends on these events: by all minimal cut sets, with the importance of the events, where that is asked for; or
-- by those of at most so many events.
abbrev pub AreToldBy : Option ℕ → ℕ → System → ℕ → List ℕ → List EventBounds → Bool → Option Bounds → List EventImportance → Type 0
AreToldBy None whole system target events known asked bounds importances = AreTold whole system target known (told_events asked events) bounds importances
AreToldBy (Some most) whole system target events known asked bounds importances = AreToldToOrder whole system target events known most bounds × (importances ≡ [])

-- The text of the probability of a target that depends on these events, in which names may stand in quotes, in so many hours, if they are
-- given; with the importance of each of the events, where that is asked for; or by its minimal cut sets of at most so many events.
pub record TellsProbability (quoted : Bool) (system : System) (rates : List Rate) (target : ℕ) (events : List ℕ) (hours : Option (List ℕ)) (asked : Bool) (max_order : Option ℕ) (text : List ℕ) : Type 0 where
  pub whole : ℕ
  pub wide : whole ≡ 4000000000
  pub known : List EventRate
  pub are_known : AreKnown whole system rates hours known
  pub bounds : Option Bounds
  pub importances : List EventImportance
  pub told : AreToldBy max_order whole system target events (bounds_known known) asked bounds importances
  pub text_is : text ≡ lines_text quoted whole (lines_of system hours events (all_found known) max_order bounds importances)
