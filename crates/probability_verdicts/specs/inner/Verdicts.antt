-- The verdict on a requirement over a probability, where no bounds need be found.
use Rattle.std.specs.Prelude.{ℕ, List}
use Rattle.fault_system.specs.Systems.{System}
use Rattle.property_reader.specs.declared.rate.Rate.{Rate}
use Rattle.probability_verdicts.specs.declared.verdict.ProbabilityVerdict.{ProbabilityVerdict}
use Rattle.probability_verdicts.specs.Verdicts.{IsProbabilityVerdict}

-- the verdict, whatever the number, the hours and the rates are
abbrev pub IsEarlyVerdict : System → ℕ → ProbabilityVerdict → Type 0
IsEarlyVerdict system target verdict = (rates : List Rate) (events most hours : List ℕ) → IsProbabilityVerdict system rates target events most hours verdict
