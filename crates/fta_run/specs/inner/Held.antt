-- What is read of the files, and a run on files that are read before it.
use Rattle.std.specs.Prelude.{◌≡◌, ◌≤◌, ◌<◌, ◌⊎◌, true, ℕ, suc, List, [], ◌∷◌, Option, None, Some, IfSome, Result, if◌then◌else◌, length, slice_get, take}
use Rattle.std.specs.List.{AllZip}
use Rattle.plain_values.specs.Name.{is_same_text}
use Rattle.phases.specs.Phases.{IsDue}
use Rattle.phases.specs.declared.status.Status.{Status}
use Rattle.phases.specs.declared.status.Status.TheVariants.{Memory, ReadFault, ReportFault, WriteFault}
use Rattle.fta_outside.specs.Outside.{Rose, Seen}
use Rattle.system_answers.specs.Voices.{Voice, labels}
use Rattle.fta_run.specs.Answers.{AskForSets, IsJustified, IsOutput, MayCome, Took}
use Rattle.fta_run.specs.Due.{due}
use Rattle.fta_run.specs.Required.{Output}
use Rattle.fta_run.specs.Files.{most_bytes, most_files}
use Rattle.cut_reports.specs.Places.{is_among}
use Rattle.fta_run.specs.Words.{GiveNoRequest, GiveRequest, IsRequest, Request, file_words}

-- What was read of each file is the front of what it contains, where that is told: one byte more than a file may have, at most.
abbrev pub AreFronts : (List ℕ → Option (List ℕ)) → List (List ℕ) → List (List ℕ) → Type 0
AreFronts contents files texts = AllZip (λ file text. IfSome (contents file) (λ whole. text ≡ take (suc most_bytes) whole)) files texts

-- Want of memory, or a fault of the file of this number, whose count of faults rose.
abbrev pub IsFileEnd : ℕ → ℕ → ℕ → Status → Type 0
IsFileEnd number before after status = (status ≡ Memory) ⊎ ((status ≡ ReadFault number) × Rose before after)

-- Want of memory, or a fault of one of the files, of which there are not too many, and the count of its faults rose.
abbrev pub IsReadEnd : List (List ℕ) → (List ℕ → ℕ) → (List ℕ → ℕ) → Status → Type 0
IsReadEnd files before after status =
    (status ≡ Memory)
    ⊎ ((file : ℕ) × (status ≡ ReadFault file) × (length files ≤ most_files) × (name : List ℕ) × (slice_get files file ≡ Some name) × Rose (before name) (after name))

-- the text of the first of these files, with these texts, that has a name
abbrev pub text_of : List (List ℕ) → List (List ℕ) → List ℕ → Option (List ℕ)
text_of [] texts name = None
text_of (file ∷ files) [] name = None
text_of (file ∷ files) (text ∷ texts) name = if is_same_text file name then Some text else text_of files texts name

-- These are the files that are read: none, where the words give no request or name too many, and else those that they name.
abbrev pub IsToRead : List (List ℕ) → List (List ℕ) → List (List ℕ) → Type 0
IsToRead names words files =
    ((files ≡ []) × (GiveNoRequest names words ⊎ (most_files < length (file_words words))))
    ⊎ (GiveRequest names words × (length (file_words words) ≤ most_files) × (files ≡ file_words words))

-- A run ended so on files of these contents, and no read failed: a refusal is the verdict, what was written is the text that is due, and
-- what is due comes, unless memory is wanting, or a write or a report fails.
pub record RanOn (words : List (List ℕ)) (contents : List ℕ → Option (List ℕ)) (voices : List Voice) (status : Status) (before after : Seen) : Type 0 where
  pub verdict : IsJustified words contents voices status
  pub output : Took (IsOutput words contents voices) status before after
  pub complete : length (file_words words) ≤ most_files → (its_due : Result Output Status) → IsDue (due words contents voices) its_due → MayCome (AskForSets words contents voices) its_due status
  pub no_fault : (file : ℕ) → status ≡ ReadFault file → ⊥
  pub write_fault : status ≡ WriteFault → Rose before.faults after.faults

-- A report failed only where the request chooses it, and its count of faults rose.
abbrev pub IsReportCaused : List (List ℕ) → List (List ℕ) → (ℕ → Type 0) → Status → Type 0
IsReportCaused names words RoseThere status =
    (place : ℕ) → status ≡ ReportFault place → (asked : Request) × IsRequest names words asked × (is_among asked.options.chosen place ≡ true) × RoseThere place

-- What comes of words whose files are read first: memory was wanting, or a read of one of them failed, and nothing was written; or the
-- files were read, and the run ended on exactly the bytes that the reads gave.
abbrev pub RanRead : List (List ℕ) → (List ℕ → Option (List ℕ)) → (List ℕ → ℕ) → (List ℕ → ℕ) → List Voice → Status → Seen → Seen → Type 0
RanRead words contents faults_before faults_after voices status before after =
    (IsReadEnd (file_words words) faults_before faults_after status × (after.taken ≡ before.taken))
    ⊎ ((files : List (List ℕ)) × (texts : List (List ℕ)) × IsToRead (labels voices) words files × AreFronts contents files texts × RanOn words (text_of files texts) voices status before after)
