-- What the handed-in reports say.
use Rattle.std.specs.Prelude.{ℕ, List, map}
use Rattle.fault_system.specs.Systems.{System}
use Rattle.cut_reports.specs.Texts.{reports_text}

-- a report: its name, and its text of a list of sets, where the events have these names
pub record Voice : Type 0 where
  pub label : List ℕ
  pub text : List (List ℕ) → List (List ℕ) → List ℕ

-- the reports of a list, whose names and texts are these
abbrev pub voices_of : {R : Type 0} → (R → List ℕ) → (R → List (List ℕ) → List (List ℕ) → List ℕ) → List R → List Voice
voices_of label_of text_of reports = map (λ report. record { label = label_of report; text = text_of report }) reports

-- the names of reports
abbrev pub labels : List Voice → List (List ℕ)
labels voices = map (λ voice. voice.label) voices

-- the heading line and the text of each chosen report, of these sets of events of a system
abbrev pub voices_text : List ℕ → List (List ℕ) → System → List Voice → List ℕ
voices_text chosen sets system voices = reports_text (λ (voice : Voice). voice.label) (λ (voice : Voice). voice.text) chosen sets (map (λ event. event.name) system.events) voices
