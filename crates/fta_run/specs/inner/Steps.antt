-- What the steps of a run owe each other, beside that they meet their phases.
use Rattle.std.specs.Prelude.{◌≡◌, ◌⊎◌, Bool, true, false, ℕ, List, Option, Result, Ok, Err, MatchResult}
use Rattle.fta_outside.specs.Outside.{Rose, Seen}
use Rattle.phases.specs.Phases.{Passes, Stops}
use Rattle.phases.specs.declared.status.Status.{Status}
use Rattle.phases.specs.declared.status.Status.TheVariants.{Done, Unmet, WriteFault, Memory}
use Rattle.fta_run.specs.Words.{Request, GiveRequest, IsRequest, file_words}
use Rattle.system_answers.specs.Voices.{Voice, labels}
use Rattle.fta_run.specs.Answers.{IsTextOf, TookFront, TookText, is_by_lines}
use Rattle.fta_run.specs.Due.{due}
use Rattle.fta_run.specs.inner.Texts.{text_due}
use Rattle.fta_run.specs.inner.Held.{IsReadEnd}
use Rattle.system_answers.specs.inner.Ends.{IsReportFault}

-- A report that the request of the words chooses failed.
abbrev pub IsChosenFault : List (List ℕ) → List Voice → (ℕ → Type 0) → Status → Type 0
IsChosenFault words voices RoseThere status = (asked : Request) × IsRequest (labels voices) words asked × IsReportFault asked.options.chosen RoseThere status

-- Why there may be no answer, beside that the phases stop: memory was wanting, or a read of a file of the request failed, or a report,
-- where a text is due.
abbrev pub IsExcused : List (List ℕ) → (List ℕ → Option (List ℕ)) → List Voice → (List ℕ → ℕ) → (List ℕ → ℕ) → (ℕ → Type 0) → Status → Type 0
IsExcused words contents voices before after RoseThere status =
    (status ≡ Memory)
    ⊎ ((IsReadEnd (file_words words) before after status × GiveRequest (labels voices) words)
    ⊎ (IsChosenFault words voices RoseThere status × ((text : List ℕ) × Passes (text_due words contents voices) text)))

-- The words give a request whose text is made line by line.
abbrev pub AsksLines : List (List ℕ) → List Voice → Type 0
AsksLines words voices = (asked : Request) × IsRequest (labels voices) words asked × (is_by_lines asked ≡ true)

-- A text that is due was begun, and a write failed; or memory was wanting for the next line of it.
abbrev pub IsCutOff : List (List ℕ) → List Voice → Seen → Seen → Status → Type 0
IsCutOff words voices before after status = ((status ≡ WriteFault) × Rose before.faults after.faults) ⊎ ((status ≡ Memory) × AsksLines words voices)

-- A sink took the text that is due; or there is no answer, and it took nothing; or the text was not written whole.
abbrev pub Runs : List (List ℕ) → (List ℕ → Option (List ℕ)) → List Voice → (List ℕ → ℕ) → (List ℕ → ℕ) → (ℕ → Type 0) → Result Bool Status → Seen → Seen → Type 0
Runs words contents voices read_before read_after RoseThere result before after =
    MatchResult result (λ met. TookText (λ text. Passes (due words contents voices) (record { text = text; met = met })) before after)
    (λ status. ((Stops (due words contents voices) status ⊎ IsExcused words contents voices read_before read_after RoseThere status) × (after.taken ≡ before.taken))
    ⊎ (TookFront (IsTextOf (Passes (due words contents voices))) before after × IsCutOff words voices before after status))

-- the status of an answer, which tells of no requirement that is not met, or of one
abbrev pub ended : Result Bool Status → Status
ended (Ok true) = Done
ended (Ok false) = Unmet
ended (Err status) = status
