-- The probability of a target: what is known of its events, and when two decimals bound how probable it is.
use Rattle.std.specs.Prelude.{ℕ, ◌+◌, ◌*◌, ◌^◌, ◌<◌, ◌≤◌, ◌≡◌, ◌++◌, Bool, true, false, nat_le, List, [], ◌∷◌, codes, filter, length, map, slice_get, Option, None, Some}
use Rattle.std.specs.List.{AllByRecursion}
use Rattle.fault_system.specs.Truth.{NumberSet, set_of}
use Rattle.fault_system.specs.Systems.{System, Holds}
use Rattle.fault_system.specs.CutSets.{makes_hold}
use Rattle.property_reader.specs.declared.rate.Rate.{Rate}
use Rattle.galileo_writer.specs.TreeText.{rate_of}
use Rattle.dot_writer.specs.Picture.{is_mark}
use Rattle.decimals.specs.Decimals.{parts, AreNear}
use Rattle.decimals.specs.DecimalTexts.{decimal_text}
use Rattle.decimals.specs.Numerals.{Number, number_of}
use Rattle.probabilities.specs.declared.rates.Bounds.{Bounds}
use Rattle.probabilities.specs.declared.rates.Rate.{Rate as EventBounds}
use Rattle.probabilities.specs.declared.importance.Importance.{Importance}
use Rattle.probabilities.specs.Rates.{Rates, IsWithin}
use Rattle.probabilities.specs.Weights.{weight, numbers}
use Rattle.probabilities.specs.Decided.{rates_of}
use Rattle.probabilities.specs.Certain.{certain}
use Rattle.probabilities.specs.Widths.{AreNarrow, AreNarrowRates}
use Rattle.probabilities.specs.Sharp.{AreSharpRates}
use Rattle.event_probabilities.specs.declared.finding.Found.{Found}
use Rattle.event_probabilities.specs.declared.finding.Found.TheVariants.{WithoutRate}
use Rattle.event_probabilities.specs.declared.rating.EventRate.{EventRate}
use Rattle.event_probabilities.specs.EventRates.{IsFound, IsNarrowFound, IsSharpWhereShort, IsUnknown}
use Rattle.probability_lines.specs.declared.line.EventImportance.{EventImportance}

-- ---- what is known of the events

-- the number that the hours are, where they are given
abbrev pub hours_of : Option (List ℕ) → Option Number
hours_of None = None
hours_of (Some text) = number_of text

-- Nothing is known of an event without a rate, and of another what its number and the hours say, as near as they let it be.
abbrev pub IsFoundAs : Bool → ℕ → Rate → Option Number → Found → EventBounds → Type 0
IsFoundAs true whole rate hours found bounds = IsUnknown whole bounds × (found ≡ WithoutRate)
IsFoundAs false whole rate hours found bounds =
    IsFound whole rate.kind (number_of rate.text) hours found bounds × IsNarrowFound whole rate.kind (number_of rate.text) hours found bounds

-- What is known of an event of a rate, in parts of a whole.
pub record IsRateKnown (whole : ℕ) (rate : Rate) (hours : Option Number) (known : EventRate) : Type 0 where
  pub found : IsFoundAs (is_mark rate.kind rate.text) whole rate hours known.found known.rate
  pub sharp : IsSharpWhereShort whole known.rate

-- A list of so many items, each of which is so by its place.
pub record AreEach {X : Type 0} (Is : ℕ → X → Type 0) (count : ℕ) (list : List X) : Type 0 where
  pub all : length list ≡ count
  pub each : (place : ℕ) (item : X) → slice_get list place ≡ Some item → Is place item

-- what is known of each event of a system, by its number
abbrev pub AreKnown : ℕ → System → List Rate → Option (List ℕ) → List EventRate → Type 0
AreKnown whole system rates hours known = AreEach (λ event its. IsRateKnown whole (rate_of rates event) (hours_of hours) its) (length system.events) known

-- the bounds of the events' probabilities
abbrev pub bounds_known : List EventRate → List EventBounds
bounds_known known = map (λ its. its.rate) known

-- and whether they have one
abbrev pub all_found : List EventRate → List Found
all_found known = map (λ its. its.found) known

-- ---- how probable a target is

-- whether a target holds under a set of events
abbrev pub holds_under : System → ℕ → List ℕ → Bool
holds_under system target set = makes_hold system target (set_of set)

-- Out of d ^ n times, where the system has n events, how often the target holds: each event e occurs m e times out of d, independent of
-- the others.
abbrev pub times_held : System → ℕ → ℕ → (ℕ → ℕ) → ℕ
times_held system target d m = weight d m (numbers (length system.events) 0) (holds_under system target)

-- Two decimals bound the probability of a target, whatever those of the events are within their bounds: so many parts of the whole are at
-- most, and at least, how often it holds; and they are the whole at most.
pub record BoundTarget (whole : ℕ) (system : System) (target : ℕ) (rates : Rates) (bounds : Bounds) : Type 0 where
  pub lower : (d : ℕ) (m : ℕ → ℕ) → IsWithin (10 ^ whole) rates d m → parts bounds.lower * d ^ length system.events ≤ times_held system target d m * 10 ^ whole
  pub upper : (d : ℕ) (m : ℕ → ℕ) → IsWithin (10 ^ whole) rates d m → times_held system target d m * 10 ^ whole ≤ parts bounds.upper * d ^ length system.events
  pub most : parts bounds.upper ≤ 10 ^ whole

-- The lower one is near to the probability where each event occurs as seldom as it may, and the upper one to that where each occurs as often:
-- by three units of the 17th digit for each event of the system.
pub record AreSharpFor (whole : ℕ) (system : System) (target : ℕ) (rates : Rates) (bounds : Bounds) : Type 0 where
  pub lower : AreNear (3 * length system.events) (times_held system target (10 ^ whole) rates.low * 10 ^ whole) (parts bounds.lower * (10 ^ whole) ^ length system.events)
  pub upper : AreNear (3 * length system.events) (parts bounds.upper * (10 ^ whole) ^ length system.events) (times_held system target (10 ^ whole) rates.high * 10 ^ whole)

-- They bound it, and are as near as the bounds of the events let them be, where the whole has room for the places of all events.
pub record AreTargetBounds (whole : ℕ) (system : System) (target : ℕ) (known : List EventBounds) (rates : Rates) (bounds : Bounds) : Type 0 where
  pub bound : BoundTarget whole system target rates bounds
  pub sharp : (places : ℕ) → AreSharpRates whole places known → places * length system.events ≤ whole → AreSharpFor whole system target rates bounds
  pub narrow : (places units : ℕ) → AreNarrowRates whole places units known → places * length system.events ≤ whole
      → (count : ℕ) × (count ≤ length system.events) × AreNarrow whole places units count bounds

-- both bounds have this text
abbrev pub HaveText : ℕ → List ℕ → Bounds → Type 0
HaveText whole text bounds = (decimal_text whole bounds.lower ≡ text) × (decimal_text whole bounds.upper ≡ text)

-- The bounds of the probability of a target: both are 1 where it holds under all events and under none, and 0 where it never holds.
pub record IsProbability (whole : ℕ) (system : System) (target : ℕ) (known : List EventBounds) (bounds : Bounds) : Type 0 where
  pub right : AreTargetBounds whole system target known (rates_of whole known) bounds
  pub always : ((events : NumberSet) → Holds system events target) → HaveText whole (codes "1") bounds
  pub never : ((events : NumberSet) → Holds system events target → ⊥) → HaveText whole (codes "0") bounds

-- The bounds where an event never occurs, and where it always does, whatever is known of it.
pub record IsImportance (whole : ℕ) (system : System) (target : ℕ) (known : List EventBounds) (event : ℕ) (both : Importance) : Type 0 where
  pub never : AreTargetBounds whole system target known (certain (10 ^ whole) 0 event (rates_of whole known)) both.never
  pub always : AreTargetBounds whole system target known (certain (10 ^ whole) (10 ^ whole) event (rates_of whole known)) both.always

-- These are the importances of some events, in order.
pub record AreImportances (whole : ℕ) (system : System) (target : ℕ) (known : List EventBounds) (events : List ℕ) (importances : List EventImportance) : Type 0 where
  pub events_are : map (λ its. its.event) importances ≡ events
  pub each : AllByRecursion (λ its. IsImportance whole system target known its.event its.both) importances

-- the events whose importance is told: all, or none where it is not asked for
abbrev pub told_events : Bool → List ℕ → List ℕ
told_events true events = events
told_events false events = []

-- ---- where no bounds are found

-- of the events below a first one it is known which occur
pub record Case : Type 0 where
  pub first : ℕ
  pub occurred : List ℕ

-- what becomes of a condition then: it is asked of the other events
abbrev pub in_case : (List ℕ → Bool) → Case → List ℕ → Bool
in_case condition its set = condition (its.occurred ++ filter (λ event. nat_le its.first event) set)

-- two cases make two conditions
abbrev pub AreApart : (List ℕ → Bool) → Case → Case → Type 0
AreApart condition its other = ((set : List ℕ) → in_case condition its set ≡ in_case condition other set) → ⊥

-- no two of these cases make one condition
abbrev pub AreAllApart : (List ℕ → Bool) → List Case → Type 0
AreAllApart condition [] = Unit {0}
AreAllApart condition (its ∷ cases) = AllByRecursion (λ other. AreApart condition its other) cases × AreAllApart condition cases

-- There are more conditions than so many that a condition becomes.
pub record HasMoreCases (most : ℕ) (condition : List ℕ → Bool) : Type 0 where
  pub cases : List Case
  pub more : most < length cases
  pub earlier : AllByRecursion (λ its. AllByRecursion (λ event. event < its.first) its.occurred) cases
  pub apart : AreAllApart condition cases

-- how many are looked at
abbrev pub most_cases : ℕ
most_cases = 4194304

-- ---- what is told

-- What is told of a target with these events: bounds and importances, or none, and then there are more cases than are looked at.
abbrev pub AreTold : ℕ → System → ℕ → List EventBounds → List ℕ → Option Bounds → List EventImportance → Type 0
AreTold whole system target known events None importances = HasMoreCases most_cases (holds_under system target) × (importances ≡ [])
AreTold whole system target known events (Some bounds) importances =
    IsProbability whole system target known bounds × AreImportances whole system target known events importances
