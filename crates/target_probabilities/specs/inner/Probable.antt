-- Beside specs/Probability.antt: what the functions say that make the text.
use Rattle.std.specs.Prelude.{ℕ, ◌^◌, ◌≡◌, List, length, map, Option}
use Rattle.std.specs.List.{AllByRecursion}
use Rattle.fault_system.specs.Systems.{System}
use Rattle.property_reader.specs.declared.rate.Rate.{Rate}
use Rattle.galileo_writer.specs.TreeText.{rate_of}
use Rattle.decimals.specs.Numerals.{Number}
use Rattle.decimals.specs.declared.numeral.Numeral.{Numeral}
use Rattle.decimals.specs.inner.Figures.{IsReadAs}
use Rattle.zdd_store.specs.inner.Family.{Family, IsAntichain}
use Rattle.probabilities.specs.declared.rates.Rate.{Rate as EventBounds}
use Rattle.probabilities.specs.Decided.{FitsWhole}
use Rattle.probabilities.specs.inner.Certain.{AreCertainBounds}
use Rattle.probabilities.specs.inner.Cofactors.{IsGivenUp}
use Rattle.event_probabilities.specs.declared.rating.EventRate.{EventRate}
use Rattle.probability_lines.specs.declared.line.EventImportance.{EventImportance}
use Rattle.target_probabilities.specs.Probability.{AreEach, AreTold, IsRateKnown, most_cases}
use Rattle.target_probabilities.specs.declared.told.Told.{Told}

-- what is known of an event whose rate is this, for each reading of the hours
pub record IsKnownSo (whole : ℕ) (rate : Rate) (hours : Option Numeral) (its : EventRate) : Type 0 where
  pub fits : FitsWhole whole its.rate
  pub known : (given : Option Number) → IsReadAs given hours → IsRateKnown whole rate given its

-- what is known of so many events
abbrev pub AreKnownSo : ℕ → List Rate → Option Numeral → ℕ → List EventRate → Type 0
AreKnownSo whole rates hours count known = AreEach (λ event its. IsKnownSo whole (rate_of rates event) hours its) count known

-- and of all events of a system
abbrev pub IsWellKnown : ℕ → System → List Rate → Option Numeral → List EventRate → Type 0
IsWellKnown whole system rates hours known = AreKnownSo whole rates hours (length system.events) known

-- the bounds of a family where an event never occurs, and where it always does
pub record IsOfFamily (whole : ℕ) (list : List EventBounds) (family : Family) (its : EventImportance) : Type 0 where
  pub never : AreCertainBounds whole 0 list its.event family its.both.never
  pub always : AreCertainBounds whole (10 ^ whole) list its.event family its.both.always

-- those of some events, in order
pub record AreOfFamily (whole : ℕ) (list : List EventBounds) (family : Family) (events : List ℕ) (importances : List EventImportance) : Type 0 where
  pub events_are : map (λ its. its.event) importances ≡ events
  pub each : AllByRecursion (IsOfFamily whole list family) importances

-- why a family has no bounds, where no set of it is within another
abbrev pub IsOver : List EventBounds → Family → Type 0
IsOver list family = IsAntichain family → IsGivenUp (length list) most_cases family

-- what is told of a target
abbrev pub AreToldSo : ℕ → System → ℕ → List EventBounds → List ℕ → Told → Type 0
AreToldSo whole system target list events told = AreTold whole system target list events told.bounds told.importances.items
