-- Verdicts by bounds.
use Rattle.std.proofs.Common.{ℕ, List, Option, None, Some}
use Rattle.fault_system.specs.Systems.{System}
use Rattle.property_reader.specs.declared.rate.Rate.{Rate}
use Rattle.decimals.specs.Numerals.{Number}
use Rattle.probabilities.specs.declared.rates.Bounds.{Bounds}
use Rattle.probability_verdicts.specs.declared.verdict.ProbabilityVerdict.{ProbabilityVerdict}
use Rattle.probability_verdicts.specs.declared.verdict.ProbabilityVerdict.TheVariants.{Met, Vacuous, Anyway, Above, Large}
use Rattle.probability_verdicts.specs.Verdicts.{IsBoundedSo, IsProbabilityVerdict, IsVerdictOfBounds}

never_vacuous : (whole : ℕ) (most : Option Number) (event : Option ℕ) (bounds : Option Bounds) → IsVerdictOfBounds whole most event bounds Vacuous → ⊥
never_vacuous whole most event None is = is
never_vacuous whole most event (Some bounds) is = is

never_anyway : (whole : ℕ) (most : Option Number) (event : Option ℕ) (bounds : Option Bounds) → IsVerdictOfBounds whole most event bounds Anyway → ⊥
never_anyway whole most event None is = is
never_anyway whole most event (Some bounds) is = is

-- a verdict by bounds is the verdict
pub bounded_verdict : (system : System) (rates : List Rate) (target : ℕ) (events most hours : List ℕ) (verdict : ProbabilityVerdict) → IsBoundedSo system rates target events most hours verdict → IsProbabilityVerdict system rates target events most hours verdict
bounded_verdict system rates target events most hours Met its = its
bounded_verdict system rates target events most hours Vacuous its = absurd (never_vacuous its.whole _ _ its.bounds its.verdict_is)
bounded_verdict system rates target events most hours Anyway its = absurd (never_anyway its.whole _ _ its.bounds its.verdict_is)
bounded_verdict system rates target events most hours (Above text unrated) its = its
bounded_verdict system rates target events most hours Large its = its
