-- How what reports say may end.
use Rattle.std.specs.Prelude.{◌≡◌, ◌⊎◌, true, ℕ, List}
use Rattle.phases.specs.Phases.{Phase, Passes}
use Rattle.phases.specs.declared.status.Status.{Status}
use Rattle.phases.specs.declared.status.Status.TheVariants.{ReportFault, Memory}
use Rattle.cut_reports.specs.Places.{is_among}

-- The report at a place failed: it is one of the chosen, and its count rose.
abbrev pub IsReportFault : List ℕ → (ℕ → Type 0) → Status → Type 0
IsReportFault chosen RoseThere status = (place : ℕ) × (status ≡ ReportFault place) × (is_among chosen place ≡ true) × RoseThere place

-- Want of memory, or a fault of a chosen report.
abbrev pub IsReportEnd : List ℕ → (ℕ → Type 0) → Status → Type 0
IsReportEnd chosen RoseThere status = (status ≡ Memory) ⊎ IsReportFault chosen RoseThere status

-- Want of memory, or a fault of a chosen report, and some text passes the phase.
abbrev pub EndsReports : List ℕ → (ℕ → Type 0) → Phase (List ℕ) → Status → Type 0
EndsReports chosen RoseThere phase status = (status ≡ Memory) ⊎ (IsReportFault chosen RoseThere status × ((text : List ℕ) × Passes phase text))
