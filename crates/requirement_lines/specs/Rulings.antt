-- The verdict on a requirement, of whichever kind, and what it comes to.
use Rattle.std.specs.Prelude.{ℕ, Bool, true, false, List}
use Rattle.std.specs.List.{list_all}
use Rattle.fault_system.specs.Systems.{System}
use Rattle.property_reader.specs.declared.rate.Rate.{Rate}
use Rattle.requirement_names.specs.declared.named.NamedSentence.{NamedSentence}
use Rattle.requirement_names.specs.declared.named.NamedSentence.TheVariants as said
use Rattle.requirement_verdicts.specs.declared.verdict.Verdict.{Verdict}
use Rattle.requirement_verdicts.specs.declared.verdict.Verdict.TheVariants as sets
use Rattle.probability_verdicts.specs.declared.verdict.ProbabilityVerdict.{ProbabilityVerdict}
use Rattle.probability_verdicts.specs.declared.verdict.ProbabilityVerdict.TheVariants as probability
use Rattle.requirement_verdicts.specs.Verdicts.{IsVerdict}
use Rattle.probability_verdicts.specs.Verdicts.{IsProbabilityVerdict}
use Rattle.requirement_lines.specs.declared.ruling.Ruling.{Ruling}
use Rattle.requirement_lines.specs.declared.ruling.Ruling.TheVariants.{OfSets, OfProbability}
use Rattle.requirement_lines.specs.declared.ruling.Mark.{Mark}
use Rattle.requirement_lines.specs.declared.ruling.Mark.TheVariants.{Met, Broken, Vacuous}
use Rattle.requirement_lines.specs.declared.judgement.Judgement.{Judgement}

-- The verdict on what a sentence says of a target that depends on these events, where events have these rates.
abbrev pub IsRulingOn : System → List Rate → ℕ → List ℕ → NamedSentence → Ruling → Type 0
IsRulingOn system rates target events (said.OfSets sentence) (OfSets verdict) = IsVerdict system target sentence verdict
IsRulingOn system rates target events (said.OfSets sentence) (OfProbability verdict) = ⊥
IsRulingOn system rates target events (said.Probability most hours) (OfSets verdict) = ⊥
IsRulingOn system rates target events (said.Probability most hours) (OfProbability verdict) = IsProbabilityVerdict system rates target events most.text hours.text verdict

-- ---- what a verdict comes to

-- where the sentence speaks of sets of events: broken by a set, or by an exception that is stale
abbrev pub set_mark : Verdict → Mark
set_mark sets.Met = Met
set_mark sets.Vacuous = Vacuous
set_mark (sets.Broken set) = Broken
set_mark (sets.Stale set) = Broken

-- where it speaks of a probability: broken where the target holds anyway, and where the probability is not known to be as small
abbrev pub probability_mark : ProbabilityVerdict → Mark
probability_mark probability.Met = Met
probability_mark probability.Vacuous = Vacuous
probability_mark probability.Anyway = Broken
probability_mark (probability.Above bound event) = Broken
probability_mark probability.Large = Broken

-- what a verdict comes to
abbrev pub mark_of : Ruling → Mark
mark_of (OfSets verdict) = set_mark verdict
mark_of (OfProbability verdict) = probability_mark verdict

-- whether a requirement is met
abbrev pub is_met : Mark → Bool
is_met Met = true
is_met Broken = false
is_met Vacuous = false

-- whether it is broken
abbrev pub is_broken : Mark → Bool
is_broken Met = false
is_broken Broken = true
is_broken Vacuous = false

-- whether it is vacuous
abbrev pub is_vacuous : Mark → Bool
is_vacuous Met = false
is_vacuous Broken = false
is_vacuous Vacuous = true

-- whether all requirements are met
abbrev pub are_met : List Judgement → Bool
are_met judgements = list_all (λ judgement. is_met (mark_of judgement.ruling)) judgements
