-- Reports that were begun, fed and finished.
use Rattle.std.proofs.Common.{◌≡◌, ℕ, ◌<◌, ◌++◌, List, [], length, take, get_or, Option, Some, None, Bool, true, false, sym, ap, subst, ◌∙◌, refl, append_assoc, append-nil}
use Rattle.std.specs.Prelude.{slice_get, codes, ◌∷◌, ◌+◌}
use Rattle.std.specs.List.{flat_map}
use Rattle.std.proofs.lemmas.Bool.{false≢true}
use Rattle.std.proofs.lemmas.List.{take_more}
use Rattle.std.proofs.lemmas.Grind.{flat_map-append}
use Rattle.plain_values.specs.Rising.{RisesWithin}
use Rattle.cut_reports.specs.Feeding.{IsKept, RoseAt}
use Rattle.cut_reports.specs.inner.Feeding.{ChosenTake, TakesEach, TookSets}
use Rattle.cut_reports.specs.Places.{AtChosen, Both, SoOrSame, is_among}
use Rattle.cut_reports.specs.inner.Places.{IfThere}
use Rattle.cut_reports.specs.Texts.{report_part, reports_text}
use Rattle.cut_reports.specs.inner.Texts.{Begun, ChosenHave, ChosenStand, FaultAt}
use Rattle.cut_reports.specs.declared.stop.ReportStop.{ReportStop}
use Rattle.cut_reports.specs.declared.stop.ReportStop.TheVariants.{Fault, Memory}
use Rattle.cut_reports.proofs.Places.{among_at, next_unmoved}
use Rattle.cut_reports.proofs.Taken.{failed_there, rose_in_all}

-- it stopped at the next of the chosen
pub stopped_there : {R : Type 0} (faults_of : R → ℕ) (P : R → R → Type 0) (high : ℕ) (chosen : List ℕ) (k d : ℕ) (stop : ReportStop) (before mid after : List R)
    → RisesWithin 0 high chosen → k < length chosen → AtChosen (take k chosen) P before mid
    → FaultAt (λ at. (at ≡ get_or chosen k d) × RoseAt faults_of (get_or chosen k d) mid after) stop
    → FaultAt (λ at. (is_among chosen at ≡ true) × RoseAt faults_of at before after) stop
stopped_there faults_of P high chosen k d (Fault place) before mid after r h so f = failed_there faults_of P high chosen k d place before mid after r h so f.0 f.1
stopped_there faults_of P high chosen k d Memory before mid after r h so f = tt

-- what the next of the chosen had it has still
pub next_has : {R : Type 0} (Q : R → Type 0) (P : R → R → Type 0) (high : ℕ) (chosen : List ℕ) (k d : ℕ) (before mid : List R)
    → RisesWithin 0 high chosen → k < length chosen → AtChosen (take k chosen) P before mid → ((i : ℕ) → is_among chosen i ≡ true → IfThere (slice_get before i) Q)
    → IfThere (slice_get mid (get_or chosen k d)) Q
next_has Q P high chosen k d before mid r h so has =
    subst (λ x. IfThere x Q) (sym (next_unmoved P high chosen k d before mid r h so)) (has (get_or chosen k d) (among_at chosen k d h))

parts_more : {R : Type 0} (label_of : R → List ℕ) (text_of : R → List (List ℕ) → List (List ℕ) → List ℕ) (chosen : List ℕ) (sets names : List (List ℕ)) (k d : ℕ) (reports : List R) → k < length chosen
    → reports_text label_of text_of (take (k + 1) chosen) sets names reports
    ≡ reports_text label_of text_of (take k chosen) sets names reports ++ report_part label_of text_of sets names (slice_get reports (get_or chosen k d))
parts_more label_of text_of chosen sets names k d reports h =
    let part : ℕ → List ℕ = λ place. report_part label_of text_of sets names (slice_get reports place) in
    ap (flat_map part) (take_more chosen k d h) ∙ flat_map-append part (take k chosen) (get_or chosen k d ∷ [])
    ∙ ap (λ t. flat_map part (take k chosen) ++ t) (append-nil (part (get_or chosen k d)))

-- the part of the next of the chosen
pub next_part : {R : Type 0} (stands : R → List (List ℕ) → Type 0) (label_of : R → List ℕ) (text_of : R → List (List ℕ) → List (List ℕ) → List ℕ) (P : R → R → Type 0) (high : ℕ) (chosen : List ℕ) (sets names : List (List ℕ)) (k d : ℕ)
    (before mid : List R) (first text after : List ℕ) → RisesWithin 0 high chosen → k < length chosen → AtChosen (take k chosen) P before mid → ChosenStand stands chosen sets before
    → text ≡ first ++ reports_text label_of text_of (take k chosen) sets names before
    → (IfThere (slice_get mid (get_or chosen k d)) (λ report. stands report sets) → after ≡ text ++ report_part label_of text_of sets names (slice_get mid (get_or chosen k d)))
    → after ≡ first ++ reports_text label_of text_of (take (k + 1) chosen) sets names before
next_part stands label_of text_of P high chosen sets names k d before mid first text after r h so stand e f =
    f (next_has (λ report. stands report sets) P high chosen k d before mid r h so stand)
    ∙ ap (λ x. text ++ report_part label_of text_of sets names x) (next_unmoved P high chosen k d before mid r h so)
    ∙ ap (λ t. t ++ report_part label_of text_of sets names (slice_get before (get_or chosen k d))) e
    ∙ append_assoc first (reports_text label_of text_of (take k chosen) sets names before) (report_part label_of text_of sets names (slice_get before (get_or chosen k d)))
    ∙ ap (λ t. first ++ t) (sym (parts_more label_of text_of chosen sets names k d before h))

pub heading : (first second third last a b c : List ℕ) → second ≡ first ++ a → third ≡ second ++ b → last ≡ third ++ c → last ≡ first ++ (a ++ b ++ c)
heading first second third last a b c e f g =
    g ∙ ap (λ t. t ++ c) (f ∙ ap (λ t. t ++ b) e) ∙ append_assoc (first ++ a) b c ∙ append_assoc first a (b ++ c) ∙ ap (λ t. first ++ t) (sym (append_assoc a b c))

takes_begun : {R : Type 0} (stands : R → List (List ℕ) → Type 0) (width_of : R → Option ℕ) (events : ℕ) (sets : List (List ℕ)) (a : Bool) (x y : Option R) → a ≡ true
    → Both (SoOrSame a (Begun stands width_of events)) x y → TakesEach (Some events) sets → IfThere y (λ report. TakesEach (width_of report) sets)
takes_begun stands width_of events sets a x None e h t = tt
takes_begun stands width_of events sets a None (Some y) e h t = absurd h
takes_begun stands width_of events sets false (Some x) (Some y) e h t = absurd (false≢true e)
takes_begun stands width_of events sets true (Some x) (Some y) e h t = subst (λ width. TakesEach width sets) (sym h.width_is) t

pub begun_take : {R : Type 0} (stands : R → List (List ℕ) → Type 0) (width_of : R → Option ℕ) (chosen : List ℕ) (events : ℕ) (sets : List (List ℕ)) (x y : List R)
    → AtChosen chosen (Begun stands width_of events) x y → TakesEach (Some events) sets → ChosenTake width_of chosen sets y
begun_take stands width_of chosen events sets x y begun t i e = takes_begun stands width_of events sets (is_among chosen i) (slice_get x i) (slice_get y i) e (begun i) t

stands_fed : {R : Type 0} (stands : R → List (List ℕ) → Type 0) (width_of : R → Option ℕ) (events : ℕ) (sets : List (List ℕ)) (a : Bool) (x y z : Option R) → a ≡ true
    → Both (SoOrSame a (Begun stands width_of events)) x y → Both (SoOrSame a (TookSets stands width_of sets)) y z
    → IfThere z (λ report. stands report sets) × IfThere z (λ report. width_of report ≡ Some events)
stands_fed stands width_of events sets a x y None e h k = (tt, tt)
stands_fed stands width_of events sets a x None (Some z) e h k = absurd k
stands_fed stands width_of events sets a None (Some y) (Some z) e h k = absurd h
stands_fed stands width_of events sets false (Some x) (Some y) (Some z) e h k = absurd (false≢true e)
stands_fed stands width_of events sets true (Some x) (Some y) (Some z) e h k = (k.took [] h.empty, k.same_width ∙ h.width_is)

pub fed_stand : {R : Type 0} (stands : R → List (List ℕ) → Type 0) (width_of : R → Option ℕ) (chosen : List ℕ) (events : ℕ) (sets : List (List ℕ)) (x y z : List R)
    → AtChosen chosen (Begun stands width_of events) x y → AtChosen chosen (TookSets stands width_of sets) y z → ChosenStand stands chosen sets z
fed_stand stands width_of chosen events sets x y z begun took i e = (stands_fed stands width_of events sets (is_among chosen i) (slice_get x i) (slice_get y i) (slice_get z i) e (begun i) (took i)).0

pub fed_have : {R : Type 0} (stands : R → List (List ℕ) → Type 0) (width_of : R → Option ℕ) (chosen : List ℕ) (events : ℕ) (sets : List (List ℕ)) (x y z : List R)
    → AtChosen chosen (Begun stands width_of events) x y → AtChosen chosen (TookSets stands width_of sets) y z → ChosenHave width_of chosen events z
fed_have stands width_of chosen events sets x y z begun took i e = (stands_fed stands width_of events sets (is_among chosen i) (slice_get x i) (slice_get y i) (slice_get z i) e (begun i) (took i)).1

part_same : {R : Type 0} (text_of : R → List (List ℕ) → List (List ℕ) → List ℕ) (label_of : R → List ℕ) (faults_of : R → ℕ) (sets names : List (List ℕ)) (a : Bool) (x y : Option R)
    → Both (SoOrSame a (IsKept text_of label_of faults_of)) x y → report_part label_of text_of sets names y ≡ report_part label_of text_of sets names x
part_same text_of label_of faults_of sets names a None None h = refl
part_same text_of label_of faults_of sets names a None (Some y) h = absurd h
part_same text_of label_of faults_of sets names a (Some x) None h = absurd h
part_same text_of label_of faults_of sets names true (Some x) (Some y) h =
    ap (λ l. codes "report " ++ l ++ (10 ∷ []) ++ text_of y sets names) h.same_label ∙ ap (λ t. codes "report " ++ label_of x ++ (10 ∷ []) ++ t) (h.same_text sets names)
part_same text_of label_of faults_of sets names false (Some x) (Some y) h = ap (λ r. report_part label_of text_of sets names (Some r)) h

-- the text is that of the reports before
pub parts_same : {R : Type 0} (text_of : R → List (List ℕ) → List (List ℕ) → List ℕ) (label_of : R → List ℕ) (faults_of : R → ℕ) (chosen places : List ℕ) (sets names : List (List ℕ)) (x y : List R)
    → AtChosen chosen (IsKept text_of label_of faults_of) x y → reports_text label_of text_of places sets names y ≡ reports_text label_of text_of places sets names x
parts_same text_of label_of faults_of chosen places sets names x y kept =
    let at : (place : ℕ) → report_part label_of text_of sets names (slice_get y place) ≡ report_part label_of text_of sets names (slice_get x place)
    = λ place. part_same text_of label_of faults_of sets names (is_among chosen place) (slice_get x place) (slice_get y place) (kept place) in
    ap (λ part. flat_map part places) (λ i place. at place i)

-- a report at which it stopped later stopped in all
pub stopped_in_all : {R : Type 0} (text_of : R → List (List ℕ) → List (List ℕ) → List ℕ) (label_of : R → List ℕ) (faults_of : R → ℕ) (chosen : List ℕ) (stop : ReportStop) (x y z : List R)
    → AtChosen chosen (IsKept text_of label_of faults_of) x y → FaultAt (λ at. (is_among chosen at ≡ true) × RoseAt faults_of at y z) stop → FaultAt (λ at. (is_among chosen at ≡ true) × RoseAt faults_of at x z) stop
stopped_in_all text_of label_of faults_of chosen (Fault place) x y z kept f = (f.0, rose_in_all text_of label_of faults_of chosen place x y z kept f.0 f.1)
stopped_in_all text_of label_of faults_of chosen Memory x y z kept f = tt
