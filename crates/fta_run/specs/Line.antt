-- The line that is written to the error stream.
use Rattle.std.specs.Prelude.{ℕ, Bool, true, false, ◌==◌, if◌then◌else◌, List, [], ◌++◌, codes, decimal, unwrap_or, slice_get}
use Rattle.plain_values.specs.declared.refusal.Place.{Place}
use Rattle.plain_values.specs.declared.refusal.Place.TheVariants.{Words, Whole, At}
use Rattle.plain_values.specs.declared.refusal.Refusal.{Refusal}
use Rattle.plain_values.specs.Refusal.{code_text}
use Rattle.phases.specs.declared.status.Status.{Status}
use Rattle.event_lines.specs.Text.{file_word}
use Rattle.phases.specs.declared.status.Status.TheVariants.{Done, Unmet, Usage, Refused, Constant, Unrated, StaleToken, ReadFault, WriteFault, ReportFault, Memory}

-- the place of a refusal: nothing for the words, and else the file, with the byte where it stands at one
abbrev pub place_text : List (List ℕ) → Place → List ℕ
place_text files Words = []
place_text files (Whole file) = codes " " ++ file_word files file
place_text files (At file at) = codes " " ++ (file_word files file ++ (codes ":" ++ decimal at))

-- the limit that was exceeded, where there is one
abbrev pub limit_text : ℕ → List ℕ
limit_text limit = if limit == 0 then [] else codes " over " ++ decimal limit

-- a refusal: its code and name, its place and its limit
abbrev pub refusal_text : List (List ℕ) → Refusal → List ℕ
refusal_text files refusal = code_text refusal.code ++ (place_text files refusal.place ++ limit_text refusal.limit)

-- that a target is constant: true, or false
abbrev pub constant_text : Bool → List ℕ
constant_text true = codes "constant true"
constant_text false = codes "constant false"

-- that a token is stale: the digits that it names, and those of the key of what is asked
abbrev pub stale_text : List ℕ → List ℕ → List ℕ
stale_text token input = codes "K2 StaleToken " ++ (token ++ (codes " " ++ input))

-- the name of the report at a place
abbrev pub report_name : List (List ℕ) → ℕ → List ℕ
report_name reports place = unwrap_or (slice_get reports place) []

-- what a status says, where the files and the reports have these names
abbrev pub status_text : List (List ℕ) → List (List ℕ) → Status → List ℕ
status_text files reports Done = []
status_text files reports Unmet = []
status_text files reports Usage = codes "usage"
status_text files reports (Refused refusal) = refusal_text files refusal
status_text files reports (Constant always) = constant_text always
status_text files reports (StaleToken token input) = stale_text token input
status_text files reports (Unrated event) = codes "R1 UnratedEvent " ++ event
status_text files reports (ReadFault file) = codes "cannot read " ++ file_word files file
status_text files reports WriteFault = codes "cannot write"
status_text files reports (ReportFault place) = codes "report " ++ (report_name reports place ++ codes " failed")
status_text files reports Memory = codes "out of memory"

-- the line of a status, where the files and the reports have these names; none where all was written
abbrev pub status_line : List (List ℕ) → List (List ℕ) → Status → List ℕ
status_line files reports Done = []
status_line files reports Unmet = []
status_line files reports status = codes "aadl_fta: " ++ (status_text files reports status ++ codes "\n")
