-- The lines that tell verdicts on requirements.
use Rattle.std.specs.Prelude.{ℕ, ◌+◌, ◌==◌, ◌||◌, Bool, List, [], ◌∷◌, ◌++◌, Option, None, Some, codes, cond, decimal, length, filter}
use Rattle.std.specs.List.{flat_map}
use Rattle.fault_system.specs.Systems.{System, event_name}
use Rattle.cutset_lister.specs.SetText.{set_text}
use Rattle.requirement_verdicts.specs.declared.verdict.Verdict.{Verdict}
use Rattle.requirement_verdicts.specs.declared.verdict.Verdict.TheVariants as sets
use Rattle.probability_verdicts.specs.declared.verdict.ProbabilityVerdict.{ProbabilityVerdict}
use Rattle.probability_verdicts.specs.declared.verdict.ProbabilityVerdict.TheVariants as probability
use Rattle.requirement_lines.specs.declared.ruling.Ruling.{Ruling}
use Rattle.requirement_lines.specs.declared.ruling.Ruling.TheVariants.{OfSets, OfProbability}
use Rattle.requirement_lines.specs.declared.ruling.Mark.{Mark}
use Rattle.requirement_lines.specs.declared.ruling.Mark.TheVariants.{Met, Broken, Vacuous}
use Rattle.requirement_lines.specs.declared.judgement.Judgement.{Judgement}
use Rattle.requirement_lines.specs.declared.told.LineForm.{LineForm}
use Rattle.requirement_lines.specs.declared.told.LineForm.TheVariants.{Plain, Tap}
use Rattle.requirement_lines.specs.Rulings.{is_broken, is_met, is_vacuous, mark_of}

-- the set that breaks a requirement, or its exception that is stale, behind the rest of a line
abbrev pub verdict_set : System → Verdict → List ℕ
verdict_set system sets.Met = []
verdict_set system sets.Vacuous = []
verdict_set system (sets.Broken set) = codes " " ++ set_text system set
verdict_set system (sets.Stale set) = codes " except " ++ set_text system set

-- an event without a probability, if there is one, behind the rest of a line
abbrev pub unrated_text : System → Option ℕ → List ℕ
unrated_text system None = []
unrated_text system (Some event) = codes " unrated " ++ event_name system event

-- the upper bound of a probability that is not as small, behind the rest of a line; or that there is none; the target may hold anyway
abbrev pub verdict_bound : System → ProbabilityVerdict → List ℕ
verdict_bound system probability.Met = []
verdict_bound system probability.Vacuous = []
verdict_bound system probability.Anyway = codes " none"
verdict_bound system (probability.Above bound event) = codes " at-most " ++ (bound ++ unrated_text system event)
verdict_bound system probability.Large = codes " large"

-- what breaks a requirement, behind the rest of a line
abbrev pub reason_text : System → Ruling → List ℕ
reason_text system (OfSets verdict) = verdict_set system verdict
reason_text system (OfProbability verdict) = verdict_bound system verdict

-- ---- lines

-- the word with which the line of a requirement begins
abbrev pub verdict_word : Mark → List ℕ
verdict_word Met = codes "met "
verdict_word Broken = codes "broken "
verdict_word Vacuous = codes "vacuous "

-- the line of a requirement
abbrev pub verdict_line : System → Judgement → List ℕ
verdict_line system judgement = verdict_word (mark_of judgement.ruling) ++ (judgement.name ++ (reason_text system judgement.ruling ++ codes "\n"))

-- of how many requirements the verdict comes to such a mark
abbrev pub count_of : (Mark → Bool) → List Judgement → ℕ
count_of is_such judgements = length (filter (λ judgement. is_such (mark_of judgement.ruling)) judgements)

-- the last line: how many requirements are met, broken and vacuous
abbrev pub end_line : List Judgement → List ℕ
end_line judgements =
    codes "end met " ++ (decimal (count_of is_met judgements) ++ (codes " broken " ++ (decimal (count_of is_broken judgements) ++ (codes " vacuous " ++ (decimal (count_of is_vacuous judgements) ++ codes "\n")))))

-- the lines of requirements, in their order, and the last one
abbrev pub plain_text : System → List Judgement → List ℕ
plain_text system judgements = flat_map (verdict_line system) judgements ++ end_line judgements

-- ---- the same as TAP 13

-- the word with which the line of a requirement begins
abbrev pub tap_word : Mark → List ℕ
tap_word Met = codes "ok "
tap_word Broken = codes "not ok "
tap_word Vacuous = codes "not ok "

-- what is said behind its name
abbrev pub tap_reason : Mark → List ℕ
tap_reason Met = []
tap_reason Broken = codes " broken"
tap_reason Vacuous = codes " vacuous"

-- `#` would begin a directive, by which a test that fails may count as one that is left out; so it stands behind `\`, as `\` itself does
abbrev pub escaped_byte : ℕ → List ℕ
escaped_byte byte = cond (byte == 35 || byte == 92) (92 ∷ byte ∷ []) (byte ∷ [])

-- the text of a description
abbrev pub escaped : List ℕ → List ℕ
escaped text = flat_map escaped_byte text

-- what is said of a requirement: its name, and why it is not met
abbrev pub description : System → Judgement → List ℕ
description system judgement = judgement.name ++ (tap_reason (mark_of judgement.ruling) ++ reason_text system judgement.ruling)

-- the line of a requirement of this number
abbrev pub tap_line : System → ℕ → Judgement → List ℕ
tap_line system number judgement = tap_word (mark_of judgement.ruling) ++ (decimal number ++ (codes " - " ++ (escaped (description system judgement) ++ codes "\n")))

-- the lines of requirements from this number on
abbrev pub tap_lines : System → ℕ → List Judgement → List ℕ
tap_lines system number [] = []
tap_lines system number (judgement ∷ judgements) = tap_line system number judgement ++ tap_lines system (number + 1) judgements

-- the version, the plan, and a line for each requirement, from 1 on
abbrev pub tap_text : System → List Judgement → List ℕ
tap_text system judgements = codes "TAP version 13\n1.." ++ (decimal (length judgements) ++ (codes "\n" ++ tap_lines system 1 judgements))

-- the text in the one form or the other
abbrev pub verdicts_text : LineForm → System → List Judgement → List ℕ
verdicts_text Plain system judgements = plain_text system judgements
verdicts_text Tap system judgements = tap_text system judgements
