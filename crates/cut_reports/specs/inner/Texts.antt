-- Beside specs/Texts.antt: what no clause of `run` reaches.
use Rattle.std.specs.Prelude.{ℕ, ◌≡◌, List, [], Option, Some, true, slice_get}
use Rattle.cut_reports.specs.Places.{is_among}
use Rattle.cut_reports.specs.inner.Places.{IfThere}
use Rattle.cut_reports.specs.declared.stop.ReportStop.{ReportStop}
use Rattle.cut_reports.specs.declared.stop.ReportStop.TheVariants.{Fault, Memory}

-- A report was begun for so many events: it stands for no set.
pub record Begun {R : Type 0} (stands : R → List (List ℕ) → Type 0) (width_of : R → Option ℕ) (events : ℕ) (before after : R) : Type 0 where
  pub empty : stands after []
  pub width_is : width_of after ≡ Some events

-- Each chosen report stands for these sets.
abbrev pub ChosenStand : {R : Type 0} → (R → List (List ℕ) → Type 0) → List ℕ → List (List ℕ) → List R → Type 0
ChosenStand stands chosen sets reports = (i : ℕ) → is_among chosen i ≡ true → IfThere (slice_get reports i) (λ report. stands report sets)

-- Each chosen report has this width.
abbrev pub ChosenHave : {R : Type 0} → (R → Option ℕ) → List ℕ → ℕ → List R → Type 0
ChosenHave width_of chosen width reports = (i : ℕ) → is_among chosen i ≡ true → IfThere (slice_get reports i) (λ report. width_of report ≡ Some width)

-- where it stopped at a report, this is so of its place
abbrev pub FaultAt : (ℕ → Type 0) → ReportStop → Type 0
FaultAt P (Fault place) = P place
FaultAt P Memory = Unit {0}
