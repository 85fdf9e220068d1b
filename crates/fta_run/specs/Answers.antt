-- What a run may answer, and what a sink took where it ended so.
use Rattle.std.specs.Prelude.{◌≡◌, ◌≤◌, ◌⊎◌, Bool, true, false, ℕ, List, length, Option, Some, Result, Ok, Err, IsSome, IsOk, IsOkAnd, IsErrAnd, slice_get}
use Rattle.std.specs.List.{AllByRecursion, list_all}
use Rattle.plain_values.specs.declared.refusal.Code.TheVariants.{TooManyFiles}
use Rattle.plain_values.specs.declared.refusal.Refusal.{Refusal}
use Rattle.plain_values.specs.Refusal.{of_words}
use Rattle.phases.specs.Phases.{Passes, Stops}
use Rattle.phases.specs.declared.status.Status.{Status}
use Rattle.phases.specs.declared.status.Status.TheVariants.{Done, Unmet, Usage, Refused, Constant, Unrated, StaleToken, ReadFault, WriteFault, ReportFault, Memory}
use Rattle.grammar_rules.specs.Texts.{syntax_error}
use Rattle.fta_outside.specs.Outside.{Rose, Seen, Took as TookAll, TookPrefix}
use Rattle.fta_words.specs.declared.kind.Kind.TheVariants as kind
use Rattle.requirements.specs.declared.reading.Requirements.{Requirements}
use Rattle.requirements.specs.declared.sentence.Sentence.{Sentence}
use Rattle.requirements.specs.declared.sentence.Sentence.TheVariants.{Probability}
use Rattle.requirements.specs.Requirements.{requirements_of}
use Rattle.fta_run.specs.Words.{Kind, Request, GiveRequest, GiveNoRequest, IsRequest, file_words}
use Rattle.fta_words.specs.declared.command.Form.{Form}
use Rattle.fta_run.specs.Files.{MayContain, most_files}
use Rattle.fta_run.specs.Forms.{is_drawn}
use Rattle.fta_run.specs.Due.{due, first_text}
use Rattle.fta_run.specs.Required.{Output}
use Rattle.system_answers.specs.Voices.{Voice, labels}
use Rattle.cut_reports.specs.Places.{is_among}

-- ---- what is due for the words and the contents of the files

-- What the request that the words give writes, on what the files contain, where these are the reports.
abbrev pub IsOutput : List (List ℕ) → (List ℕ → Option (List ℕ)) → List Voice → Output → Type 0
IsOutput words contents voices output = Passes (due words contents voices) output

-- The refusal with which the phases stop.
abbrev pub IsVerdict : List (List ℕ) → (List ℕ → Option (List ℕ)) → List Voice → Refusal → Type 0
IsVerdict words contents voices refusal = Stops (due words contents voices) (Refused refusal)

-- What each file of the request contains is told; so too where the words give none.
abbrev pub AllTold : List (List ℕ) → (List ℕ → Option (List ℕ)) → List Voice → Type 0
AllTold words contents voices = (asked : Request) → IsRequest (labels voices) words asked → AllByRecursion (λ file. IsSome (contents file)) asked.files

-- Two statuses are the same, or refusals of a syntax error in one file: of the place of these only that it is dead is said.
abbrev pub IsSameStatus : Status → Status → Type 0
IsSameStatus a b = (a ≡ b) ⊎ ((file : ℕ) × (here : ℕ) × (there : ℕ) × (a ≡ Refused (syntax_error file here)) × (b ≡ Refused (syntax_error file there)))

-- whether a sentence speaks of sets of events, and not of a probability
abbrev pub speaks_of_sets : Sentence → Bool
speaks_of_sets (Probability most hours) = false
speaks_of_sets _ = true

-- no requirement of a text is on a probability
abbrev pub HasNoProbability : List ℕ → Type 0
HasNoProbability text = (all : Requirements) → requirements_of text ≡ Ok all → list_all (λ requirement. speaks_of_sets requirement.sentence) all.requirements ≡ true

-- In files of these texts a request of this kind asks for no requirement on a probability, on which more than one verdict may be right.
abbrev pub HasSets : Kind → List (List ℕ) → Type 0
HasSets kind.Require texts = HasNoProbability (first_text texts)
HasSets _ texts = Unit {0}

-- The words ask for no requirement on a probability in what the files may contain: they give no request of `require`, or one of a text without.
abbrev pub AskForSets : List (List ℕ) → (List ℕ → Option (List ℕ)) → List Voice → Type 0
AskForSets words contents voices = (asked : Request) → IsRequest (labels voices) words asked → (texts : List (List ℕ)) → MayContain contents asked.files texts → HasSets asked.kind texts

-- What may come where this output or this status is due: Done for one that tells of no requirement that is not met, and Unmet for another,
-- where each verdict is the single right one (else either of them for any output, and what was written says which: `Took`); that status;
-- want of memory, and a fault of a file; and, where an output is due, a fault of the output or of a report.
abbrev pub MayCome : Type 0 → Result Output Status → Status → Type 0
MayCome AreSingle its_due Done = IsOkAnd its_due (λ output. AreSingle → output.met ≡ true)
MayCome AreSingle its_due Unmet = IsOkAnd its_due (λ output. AreSingle → output.met ≡ false)
MayCome AreSingle its_due Usage = its_due ≡ Err Usage
MayCome AreSingle its_due (Refused refusal) = IsErrAnd its_due (λ status. IsSameStatus status (Refused refusal))
MayCome AreSingle its_due (Constant always) = its_due ≡ Err (Constant always)
MayCome AreSingle its_due (StaleToken token input) = its_due ≡ Err (StaleToken token input)
MayCome AreSingle its_due (Unrated event) = its_due ≡ Err (Unrated event)
MayCome AreSingle its_due (ReadFault file) = Unit {0}
MayCome AreSingle its_due Memory = Unit {0}
MayCome AreSingle its_due _ = IsOk its_due

-- ---- what came

-- Usage comes exactly where the words give no request; want of memory may come at any point.
abbrev pub AnswersWords : Status → List (List ℕ) → List (List ℕ) → Type 0
AnswersWords Usage names words = GiveNoRequest names words
AnswersWords Memory names words = Unit {0}
AnswersWords _ names words = GiveRequest names words

-- A refusal is the verdict, and so is that a target is constant, a token stale, or an event without a rate.
abbrev pub IsJustified : List (List ℕ) → (List ℕ → Option (List ℕ)) → List Voice → Status → Type 0
IsJustified words contents voices (Refused refusal) = IsVerdict words contents voices refusal
IsJustified words contents voices (Constant always) = Stops (due words contents voices) (Constant always)
IsJustified words contents voices (StaleToken token input) = Stops (due words contents voices) (StaleToken token input)
IsJustified words contents voices (Unrated event) = Stops (due words contents voices) (Unrated event)
IsJustified words contents voices _ = Unit {0}

-- A sink took a text of this sort after what it took before.
abbrev pub TookText : (List ℕ → Type 0) → Seen → Seen → Type 0
TookText IsText before after = (text : List ℕ) × IsText text × TookAll text before after

-- A sink took some front of a text of this sort.
abbrev pub TookFront : (List ℕ → Type 0) → Seen → Seen → Type 0
TookFront IsText before after = (text : List ℕ) × IsText text × TookPrefix text before after

-- the texts of outputs of this sort
abbrev pub IsTextOf : (Output → Type 0) → List ℕ → Type 0
IsTextOf Is text = (met : Bool) × Is (record { text = text; met = met })

-- What a sink took where a run ended so, if the request's output is of this sort: under Done the text of one that tells of no requirement
-- that is not met, and under Unmet that of another; after a fault of the output or want of memory a front of it, and else nothing.
abbrev pub Took : (Output → Type 0) → Status → Seen → Seen → Type 0
Took Is Done before after = TookText (λ text. Is (record { text = text; met = true })) before after
Took Is Unmet before after = TookText (λ text. Is (record { text = text; met = false })) before after
Took Is WriteFault before after = TookFront (IsTextOf Is) before after
Took Is Memory before after = (after.taken ≡ before.taken) ⊎ TookFront (IsTextOf Is) before after
Took Is _ before after = after.taken ≡ before.taken

-- A fault comes only where its count rose: that of the name of the file word, of which there are not too many, that of the output,
-- or that of a report that is chosen.
abbrev pub IsCaused : Status → List (List ℕ) → List (List ℕ) → (List ℕ → ℕ) → (List ℕ → ℕ) → Seen → Seen → (ℕ → Type 0) → Type 0
IsCaused (ReadFault file) names words before after out_before out_after RoseThere =
    (length (file_words words) ≤ most_files) × (name : List ℕ) × (slice_get (file_words words) file ≡ Some name) × Rose (before name) (after name)
IsCaused WriteFault names words before after out_before out_after RoseThere = Rose out_before.faults out_after.faults
IsCaused (ReportFault place) names words before after out_before out_after RoseThere =
    (asked : Request) × IsRequest names words asked × (is_among asked.options.chosen place ≡ true) × RoseThere place
IsCaused _ names words before after out_before out_after RoseThere = Unit {0}

-- What may come where too many files are named: that refusal, no request, or want of memory.
abbrev pub IsManyAnswer : Status → Type 0
IsManyAnswer Usage = Unit {0}
IsManyAnswer (Refused refusal) = refusal ≡ of_words TooManyFiles
IsManyAnswer Memory = Unit {0}
IsManyAnswer _ = ⊥

-- whether the text of a command is made line by line while it is written, which takes memory: a tree, and the table of `fmea`
abbrev pub is_by_lines_of : Kind → Form → Bool
is_by_lines_of kind.Tree form = true
is_by_lines_of kind.Fmea form = true
is_by_lines_of kind.Galileo form = is_drawn form
is_by_lines_of _ form = false

-- the same of a request
abbrev pub is_by_lines : Request → Bool
is_by_lines asked = is_by_lines_of asked.kind asked.options.form

-- Once any other text was begun, as a page of `cuts`, `paths` or `galileo`, no memory is wanting: where it is, the sink took nothing.
abbrev pub BeginsWithMemory : Request → Status → Seen → Seen → Type 0
BeginsWithMemory asked status before after = is_by_lines asked ≡ false → status ≡ Memory → after.taken ≡ before.taken
