-- The reports that are handed in: their names, their texts, and what is kept of them.
use Rattle.std.proofs.Common.{◌≡◌, inl, inr, Global, IfErr, IfOk, IfSome, Result, Ok, Err, Vec, ℕ, zero, suc, Bool, true, false, List, [], ◌∷◌, length, map, Option, Some, None, refl, sym, ap, ap₂, subst, ◌∙◌}
use Rattle.std.specs.Prelude.{slice_get}
use Rattle.std.specs.List.{flat_map}
use lib.ListN.{length-map}
use Rattle.fault_system.specs.Systems.{System}
use Rattle.fault_system.specs.Listings.{IsListing}
use Rattle.fault_system.proofs.Elements.{contains_In, each-made}
use Rattle.fta_outside.specs.Reports.{TakesSet}
use Rattle.fta_outside.specs.Counts.{HaveWidth}
use Rattle.fta_outside.specs.declared.counts.FamilyCounts.{FamilyCounts}
use Rattle.cut_reports.specs.Feeding.{IsKept}
use Rattle.cut_reports.specs.inner.Feeding.{TakesEach}
use Rattle.cut_reports.specs.Places.{AtChosen, Both, SoOrSame, is_among}
use Rattle.cut_reports.specs.Texts.{report_part, reports_text}
use Rattle.cut_reports.proofs.Places.{all_same}
use Rattle.cut_reports.proofs.Taken.{kept_same}
use Rattle.phases.specs.Phases.{Passes, Phase}
use Rattle.phases.specs.inner.Meets.{MeetsBut}
use Rattle.phases.proofs.Steps.{◌passes◌}
use Rattle.backward_slice.specs.declared.parts.Slice.{Slice}
use Rattle.system_answers.specs.Texts.{report_text, reports_of, slice_of, target_of}
use Rattle.phases.specs.declared.status.Status.{Status}
use Rattle.system_answers.specs.inner.Ends.{EndsReports, IsReportEnd}
use Rattle.system_answers.specs.Voices.{Voice, labels, voices_of, voices_text}

-- ---- names

pub labels_are : {R : Type 0} (label_of : R → List ℕ) (text_of : R → List (List ℕ) → List (List ℕ) → List ℕ) (reports : List R) → labels (voices_of label_of text_of reports) ≡ map label_of reports
labels_are label_of text_of [] = refl
labels_are label_of text_of (report ∷ reports) = ap (λ names. label_of report ∷ names) (labels_are label_of text_of reports)

-- lists of reports of the same names
same_names : {R : Type 0} (label_of : R → List ℕ) (x y : List R) → ((i : ℕ) → Both (λ a b. label_of b ≡ label_of a) (slice_get x i) (slice_get y i)) → map label_of y ≡ map label_of x
same_names label_of [] [] each = refl
same_names label_of [] (b ∷ y) each = absurd (each 0)
same_names label_of (a ∷ x) [] each = absurd (each 0)
same_names label_of (a ∷ x) (b ∷ y) each = ap₂ (λ n ns. n ∷ ns) (each 0) (same_names label_of x y (λ i. each (suc i)))

kept_name : {R : Type 0} (text_of : R → List (List ℕ) → List (List ℕ) → List ℕ) (label_of : R → List ℕ) (faults_of : R → ℕ) (chosen : Bool) (x y : Option R)
    → Both (SoOrSame chosen (IsKept text_of label_of faults_of)) x y → Both (λ a b. label_of b ≡ label_of a) x y
kept_name text_of label_of faults_of chosen None None kept = tt
kept_name text_of label_of faults_of chosen None (Some y) kept = kept
kept_name text_of label_of faults_of chosen (Some x) None kept = kept
kept_name text_of label_of faults_of true (Some x) (Some y) kept = kept.same_label
kept_name text_of label_of faults_of false (Some x) (Some y) kept = ap label_of kept

-- reports that are kept have their names
pub names_kept : {R : Type 0} (text_of : R → List (List ℕ) → List (List ℕ) → List ℕ) (label_of : R → List ℕ) (faults_of : R → ℕ) (chosen : List ℕ) (x y : List R)
    → AtChosen chosen (IsKept text_of label_of faults_of) x y → map label_of y ≡ map label_of x
names_kept text_of label_of faults_of chosen x y kept =
    same_names label_of x y (λ i. kept_name text_of label_of faults_of (is_among chosen i) (slice_get x i) (slice_get y i) (kept i))

-- reports that were not called are kept
pub all_kept : {R : Type 0} (text_of : R → List (List ℕ) → List (List ℕ) → List ℕ) (label_of : R → List ℕ) (faults_of : R → ℕ) (chosen : List ℕ) (reports : List R)
    → AtChosen chosen (IsKept text_of label_of faults_of) reports reports
all_kept text_of label_of faults_of chosen reports = all_same (IsKept text_of label_of faults_of) chosen reports (kept_same text_of label_of faults_of)

-- ---- texts

part_is : {R : Type 0} (label_of : R → List ℕ) (text_of : R → List (List ℕ) → List (List ℕ) → List ℕ) (sets names : List (List ℕ)) (reports : List R) (place : ℕ)
    → report_part (λ (voice : Voice). voice.label) (λ (voice : Voice). voice.text) sets names (slice_get (voices_of label_of text_of reports) place) ≡ report_part label_of text_of sets names (slice_get reports place)
part_is label_of text_of sets names [] zero = refl
part_is label_of text_of sets names [] (suc place) = refl
part_is label_of text_of sets names (report ∷ reports) zero = refl
part_is label_of text_of sets names (report ∷ reports) (suc place) = part_is label_of text_of sets names reports place

-- the texts of reports are those that they say
pub texts_are : {R : Type 0} (label_of : R → List ℕ) (text_of : R → List (List ℕ) → List (List ℕ) → List ℕ) (chosen : List ℕ) (sets : List (List ℕ)) (system : System) (reports : List R)
    → voices_text chosen sets system (voices_of label_of text_of reports) ≡ reports_text label_of text_of chosen sets (map (λ event. event.name) system.events) reports
texts_are label_of text_of chosen sets system reports =
    ap (λ part. flat_map part chosen) (λ i place. part_is label_of text_of sets (map (λ event. event.name) system.events) reports place i)

-- ---- sets

-- reports that were begun for all events take each set of a listing
pub takes_listing : (system : System) (target : ℕ) (most : Option ℕ) (sets names : List (List ℕ)) → IsListing system target most sets → names ≡ map (λ event. event.name) system.events → TakesEach (Some (length names)) sets
takes_listing system target most sets names is are =
    let count : length names ≡ length system.events = ap length are ∙ length-map system.events (λ event. event.name) in
    subst (λ width. TakesEach (Some width) sets) (sym count)
    (each-made (TakesSet (Some (length system.events))) sets (λ set here. ((is.exact set).0 (contains_In set sets here)).0.0.0))

-- counts for all events are for reports that were begun for as many names
pub counts_fit : (system : System) (names : List (List ℕ)) (counts : Option FamilyCounts) → names ≡ map (λ event. event.name) system.events → IfSome counts (HaveWidth (Some (length system.events)))
    → IfSome counts (HaveWidth (Some (length names)))
counts_fit system names counts are fit = subst (λ n. IfSome counts (HaveWidth (Some n))) (sym (ap length are ∙ length-map system.events (λ event. event.name))) fit

-- ---- ends

-- where a text passes, a report that failed did so before it
pub reports_end : (chosen : List ℕ) (RoseThere : ℕ → Type 0) (phase : Phase (List ℕ)) (text : List ℕ) (status : Status) → Passes phase text → IsReportEnd chosen RoseThere status → EndsReports chosen RoseThere phase status
reports_end chosen RoseThere phase text status is end = elim end [ inl memory ↦ inl memory | inr fault ↦ inr (fault, (text, is)) ]

-- what reports say of a target's listing is what they say of the target, and so is how they end
pub told : (target chosen : List ℕ) (max_order : Option ℕ) (voices : List Voice) (system : System) (RoseThere : ℕ → Type 0) (number : ℕ) (part : Slice) (result : Result (Vec ℕ Global) Status)
    → Passes (target_of target system) number → Passes (slice_of number system) part
    → IfOk result (λ made. Passes (reports_of part.target chosen max_order voices system) made.items) → IfErr result (EndsReports chosen RoseThere (reports_of part.target chosen max_order voices system))
    → MeetsBut (EndsReports chosen RoseThere (report_text target chosen max_order voices system)) (λ (made : Vec ℕ Global). made.items) (report_text target chosen max_order voices system) result
told target chosen max_order voices system RoseThere number part (Ok made) named served its end =
    named passes served passes subst (λ of. Passes (reports_of of chosen max_order voices system) made.items) served.passed.is_slice.target_is its
told target chosen max_order voices system RoseThere number part (Err status) named served its end =
    elim end [
      | inl memory ↦ inr (inl memory)
      | inr fault ↦ inr (inr (fault.0, (fault.1.0, named passes served passes subst (λ of. Passes (reports_of of chosen max_order voices system) fault.1.0) served.passed.is_slice.target_is fault.1.1)))
    ]
