-- What comes of words that may ask for a call to be explained.
use Rattle.std.specs.Prelude.{◌≡◌, ◌⊎◌, ◌<◌, ℕ, List, [], ◌∷◌, Option, None, length}
use Rattle.phases.specs.declared.status.Status.{Status}
use Rattle.phases.specs.declared.status.Status.TheVariants.{Done, Memory, ReportFault, WriteFault}
use Rattle.fta_outside.specs.Outside.{Rose, Seen}
use Rattle.fta_words.specs.inner.Explained.{explained_call}
use Rattle.system_answers.specs.Voices.{Voice, labels}
use Rattle.fta_run.specs.Answers.{AnswersWords, BeginsWithMemory, IsManyAnswer, Took}
use Rattle.fta_run.specs.Files.{most_files}
use Rattle.fta_run.specs.Words.{IsRequest, Request, file_words}
use Rattle.fta_run.specs.inner.Held.{AreFronts, IsReadEnd, IsToRead, RanOn, RanRead, text_of}
use Rattle.explained_calls.specs.inner.Texts.{ExplainsEnd}

-- what is seen of a sink that takes nothing
abbrev pub closed : Seen
closed = record { taken = None; faults = 18446744073709551615 }

-- A call is explained to its end; or memory is wanting, or a write failed; or a report that the call chooses failed.
abbrev pub EndsExplained : Status → Status → Seen → Seen → Type 0
EndsExplained its_end status before after =
    (status ≡ Done) ⊎ (((status ≡ WriteFault) × Rose before.faults after.faults) ⊎ ((status ≡ Memory) ⊎ ((place : ℕ) × (status ≡ ReportFault place) × (its_end ≡ ReportFault place))))

-- The call was run on these files without writing anything, and what explains its end was written.
pub record IsExplained (call files texts : List (List ℕ)) (voices : List Voice) (status : Status) (before after : Seen) : Type 0 where
  pub its_end : Status
  pub ran : RanOn call (text_of files texts) voices its_end closed closed
  pub took : Took (ExplainsEnd (labels voices) call files texts its_end) status before after
  pub ends : EndsExplained its_end status before after

-- What comes of a call that is explained: memory was wanting, or a read of one of its files failed, and nothing was written; or its files
-- were read, and it was explained.
abbrev pub Explains : List (List ℕ) → (List ℕ → Option (List ℕ)) → (List ℕ → ℕ) → (List ℕ → ℕ) → List Voice → Status → Seen → Seen → Type 0
Explains call contents faults_before faults_after voices status before after =
    (IsReadEnd (file_words call) faults_before faults_after status × (after.taken ≡ before.taken))
    ⊎ ((files : List (List ℕ)) × (texts : List (List ℕ)) × IsToRead (labels voices) call files × AreFronts contents files texts × IsExplained call files texts voices status before after)

-- What comes of words that ask for no explanation: what `run_read` says of them.
pub record IsRun (words : List (List ℕ)) (contents : List ℕ → Option (List ℕ)) (faults_before faults_after : List ℕ → ℕ) (voices : List Voice) (status : Status) (before after : Seen) : Type 0 where
  pub usage : AnswersWords status (labels voices) words
  pub told : RanRead words contents faults_before faults_after voices status before after
  pub begins : (asked : Request) → IsRequest (labels voices) words asked → BeginsWithMemory asked status before after
  pub many : most_files < length (file_words words) → IsManyAnswer status

-- What comes of words of which these are the call that is to be explained, if any.
abbrev pub ComesOf : List (List ℕ) → List (List ℕ) → (List ℕ → Option (List ℕ)) → (List ℕ → ℕ) → (List ℕ → ℕ) → List Voice → Status → Seen → Seen → Type 0
ComesOf [] words contents faults_before faults_after voices status before after = IsRun words contents faults_before faults_after voices status before after
ComesOf (name ∷ call) words contents faults_before faults_after voices status before after = Explains (name ∷ call) contents faults_before faults_after voices status before after

-- What comes of words: the call that they ask to be explained is, or they are run.
abbrev pub Comes : List (List ℕ) → (List ℕ → Option (List ℕ)) → (List ℕ → ℕ) → (List ℕ → ℕ) → List Voice → Status → Seen → Seen → Type 0
Comes words contents faults_before faults_after voices status before after = ComesOf (explained_call words) words contents faults_before faults_after voices status before after

-- the words of which the files are read: the call that is to be explained, or else all
abbrev pub call_or : List (List ℕ) → List (List ℕ) → List (List ℕ)
call_or [] words = words
call_or (name ∷ call) words = name ∷ call

abbrev pub asked_words : List (List ℕ) → List (List ℕ)
asked_words words = call_or (explained_call words) words
