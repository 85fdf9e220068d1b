-- Beside specs/Feeding.antt: what no clause of `run` reaches.
use Rattle.std.specs.Prelude.{ℕ, ◌≡◌, ◌==◌, Bool, List, [], ◌∷◌, ◌++◌, Option, Some, cond, length, true, slice_get}
use Rattle.std.specs.List.{AllByRecursion}
use Rattle.fta_outside.specs.Reports.{TakesSet}
use Rattle.fta_outside.specs.Counts.{AreCountsOf, HaveWidth}
use Rattle.fta_outside.specs.declared.counts.FamilyCounts.{FamilyCounts}
use Rattle.cut_reports.specs.Places.{AtChosen, AtEach, SoOrSame, is_among}
use Rattle.cut_reports.specs.inner.Places.{IfThere}

-- A report took these sets in order: where it stood for a list, it stands for that list followed by them. It has its width.
pub record TookSets {R : Type 0} (stands : R → List (List ℕ) → Type 0) (width_of : R → Option ℕ) (given : List (List ℕ)) (before after : R) : Type 0 where
  pub took : (sets : List (List ℕ)) → stands before sets → stands after (sets ++ given)
  pub same_width : width_of after ≡ width_of before

-- a report of this width takes each of these sets
abbrev pub TakesEach : Option ℕ → List (List ℕ) → Type 0
TakesEach width sets = AllByRecursion (TakesSet width) sets

-- Each chosen report takes each of these sets.
abbrev pub ChosenTake : {R : Type 0} → (R → Option ℕ) → List ℕ → List (List ℕ) → List R → Type 0
ChosenTake width_of chosen sets reports = (i : ℕ) → is_among chosen i ≡ true → IfThere (slice_get reports i) (λ report. TakesEach (width_of report) sets)

-- The chosen reports took these sets but for those that are left.
pub record Fed {R : Type 0} (stands : R → List (List ℕ) → Type 0) (width_of : R → Option ℕ) (chosen : List ℕ) (sets left : List (List ℕ)) (before after : List R) : Type 0 where
  pub given : List (List ℕ)
  pub whole : sets ≡ given ++ left
  pub took : AtChosen chosen (TookSets stands width_of given) before after

-- the counts are of sets of as many events as the chosen reports were begun for
abbrev pub ChosenFit : {R : Type 0} → (R → Option ℕ) → List ℕ → FamilyCounts → List R → Type 0
ChosenFit width_of chosen counts reports = (i : ℕ) → is_among chosen i ≡ true → IfThere (slice_get reports i) (λ report. HaveWidth (width_of report) counts)

-- a report that was begun for as many events takes these sets, and these are their counts
pub record AreFor (counts : FamilyCounts) (sets : List (List ℕ)) : Type 0 where
  pub each : TakesEach (Some (length counts.uses.items)) sets
  pub counted : AreCountsOf counts sets

-- The report at this place was given a family by its counts. It took the sets, or it declined, which was noted.
pub record GivenAt {R : Type 0} (stands : R → List (List ℕ) → Type 0) (width_of : R → Option ℕ) (counts : FamilyCounts) (place : ℕ) (declined declined_after : List ℕ) (before after : List R) : Type 0 where
  pub did : Bool
  pub noted : declined_after ≡ cond did declined (declined ++ place ∷ [])
  pub gave : (sets : List (List ℕ)) → AreFor counts sets → AtEach (λ i. SoOrSame (i == place) (TookSets stands width_of (cond did sets []))) before after

-- what the report at a place took of a family: all, or nothing where it declined
abbrev pub given : List ℕ → List (List ℕ) → ℕ → List (List ℕ)
given declined sets place = cond (is_among declined place) [] sets

-- Each of the chosen reports was given a family by its counts: it took all its sets, or it is one of those that declined.
abbrev pub GivenFamily : {R : Type 0} → (R → List (List ℕ) → Type 0) → (R → Option ℕ) → List ℕ → FamilyCounts → List ℕ → List R → List R → Type 0
GivenFamily stands width_of chosen counts declined before after =
    (sets : List (List ℕ)) → AreFor counts sets → AtEach (λ i. SoOrSame (is_among chosen i) (TookSets stands width_of (given declined sets i))) before after
