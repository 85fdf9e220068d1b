-- Reports that take the sets of a listing. Each definition is given what it uses of a report's meanings, and names no box.
use Rattle.std.specs.Prelude.{ℕ, ◌≡◌, ◌≤◌, List, Option, Some, None, slice_get}
use Rattle.fta_outside.specs.Outside.{Rose}

-- What no call changes of a report: its text and its name; and its count of faults never falls.
pub record IsKept {R : Type 0} (text_of : R → List (List ℕ) → List (List ℕ) → List ℕ) (label_of : R → List ℕ) (faults_of : R → ℕ) (before after : R) : Type 0 where
  pub same_text : (sets names : List (List ℕ)) → text_of after sets names ≡ text_of before sets names
  pub same_label : label_of after ≡ label_of before
  pub never_falls : faults_of before ≤ faults_of after

-- both are there, and the count of the second is greater, or at the last value of a counter
abbrev pub Rises : {R : Type 0} → (R → ℕ) → Option R → Option R → Type 0
Rises faults_of None after = ⊥
Rises faults_of (Some before) None = ⊥
Rises faults_of (Some before) (Some after) = Rose (faults_of before) (faults_of after)

-- The count of the report at this place rose.
abbrev pub RoseAt : {R : Type 0} → (R → ℕ) → ℕ → List R → List R → Type 0
RoseAt faults_of place before after = Rises faults_of (slice_get before place) (slice_get after place)
