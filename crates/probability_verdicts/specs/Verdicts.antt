-- The verdict on a requirement over a probability: met, vacuous, on a target that holds anyway, or not met by the upper bound that is found.
use Rattle.std.specs.Prelude.{ℕ, ◌≡◌, ⊤, Bool, true, false, find, List, [], Option, None, Some, slice_index_or}
use Rattle.fault_system.specs.Systems.{System}
use Rattle.property_reader.specs.declared.rate.Rate.{Rate}
use Rattle.decimals.specs.declared.decimal.Decimal.{Decimal}
use Rattle.decimals.specs.DecimalTexts.{decimal_text}
use Rattle.decimals.specs.Numerals.{Number, number_of}
use Rattle.probabilities.specs.declared.rates.Bounds.{Bounds}
use Rattle.event_probabilities.specs.declared.finding.Found.{Found}
use Rattle.event_probabilities.specs.declared.finding.Found.TheVariants.{Rated, WithoutRate, WithoutHours, NoProbability}
use Rattle.probability_lines.specs.declared.line.EventImportance.{EventImportance}
use Rattle.compared_numbers.specs.Compared.{IsAtMost}
use Rattle.target_probabilities.specs.Bounds.{HasBounds}
use Rattle.requirement_verdicts.specs.Meanings.{HoldsAnyway, MayHold}
use Rattle.probability_verdicts.specs.declared.verdict.ProbabilityVerdict.{ProbabilityVerdict}
use Rattle.probability_verdicts.specs.declared.verdict.ProbabilityVerdict.TheVariants.{Met, Vacuous, Anyway, Above, Large}

-- ---- events without a probability

-- whether an event has no probability, by what is found of it
abbrev pub is_without : Found → Bool
is_without Rated = false
is_without WithoutRate = true
is_without WithoutHours = true
is_without NoProbability = true

-- the same, of an event by its number, where this is found of each
abbrev pub is_unrated : List Found → ℕ → Bool
is_unrated found event = is_without (slice_index_or found event Rated)

-- the first of some events that has no probability
abbrev pub first_unrated : List Found → List ℕ → Option ℕ
first_unrated found events = find (is_unrated found) events

-- ---- verdicts

-- The verdict where this decimal is the upper bound, so many parts of a whole, this number is the most that is allowed, and this the first
-- event without a probability: met exactly where the bound is at most the number, and else the text of the bound, and the event.
abbrev pub IsVerdictOfBound : ℕ → Option Number → Option ℕ → Decimal → ProbabilityVerdict → Type 0
IsVerdictOfBound whole most event upper Met = IsAtMost whole most upper
IsVerdictOfBound whole most event upper Vacuous = ⊥
IsVerdictOfBound whole most event upper Anyway = ⊥
IsVerdictOfBound whole most event upper (Above text unrated) = (IsAtMost whole most upper → ⊥) × (text ≡ decimal_text whole upper) × (unrated ≡ event)
IsVerdictOfBound whole most event upper Large = ⊥

-- the verdict where no bounds are found
abbrev pub IsLarge : ProbabilityVerdict → Type 0
IsLarge Met = ⊥
IsLarge Vacuous = ⊥
IsLarge Anyway = ⊥
IsLarge (Above text unrated) = ⊥
IsLarge Large = ⊤

-- the verdict where these bounds are found, or none are
abbrev pub IsVerdictOfBounds : ℕ → Option Number → Option ℕ → Option Bounds → ProbabilityVerdict → Type 0
IsVerdictOfBounds whole most event None verdict = IsLarge verdict
IsVerdictOfBounds whole most event (Some bounds) verdict = IsVerdictOfBound whole most event bounds.upper verdict

-- The target holds under some events and not under none, it has bounds within so many hours, or none are found, and the verdict is theirs.
pub record IsBoundedSo (system : System) (rates : List Rate) (target : ℕ) (events most hours : List ℕ) (verdict : ProbabilityVerdict) : Type 0 where
  pub may_hold : MayHold system target
  pub not_anyway : HoldsAnyway system target → ⊥
  pub whole : ℕ
  pub found : List Found
  pub bounds : Option Bounds
  pub importances : List EventImportance
  pub has : HasBounds system rates target [] (Some hours) whole found bounds importances
  pub verdict_is : IsVerdictOfBounds whole (number_of most) (first_unrated found events) bounds verdict

-- The verdict on the requirement that a target, which depends on these events, is at most as probable as a number says, within so many hours.
abbrev pub IsProbabilityVerdict : System → List Rate → ℕ → List ℕ → List ℕ → List ℕ → ProbabilityVerdict → Type 0
IsProbabilityVerdict system rates target events most hours Met = IsBoundedSo system rates target events most hours Met
IsProbabilityVerdict system rates target events most hours Vacuous = MayHold system target → ⊥
IsProbabilityVerdict system rates target events most hours Anyway = HoldsAnyway system target
IsProbabilityVerdict system rates target events most hours (Above text unrated) = IsBoundedSo system rates target events most hours (Above text unrated)
IsProbabilityVerdict system rates target events most hours Large = IsBoundedSo system rates target events most hours Large
