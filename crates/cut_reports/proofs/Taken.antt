-- Lists of reports after one call after another.
use Rattle.std.proofs.Common.{◌≡◌, ℕ, ◌<◌, ◌≤◌, List, [], ◌∷◌, ◌++◌, length, take, get_or, Option, Some, None, Bool, true, false, refl, sym, ap, subst, ◌∙◌, append_assoc, append-nil, le_refl, inl, inr, arith}
use Rattle.std.specs.Prelude.{slice_get}
use Rattle.std.specs.List.{AllByRecursion}
use Rattle.std.proofs.lemmas.Bool.{false≢true}
use Rattle.fta_outside.specs.Outside.{Rose}
use Rattle.fta_outside.specs.Reports.{TakesSet}
use Rattle.plain_values.specs.Rising.{RisesWithin}
use Rattle.cut_reports.specs.Places.{AtChosen, Both, SoOrSame, is_among}
use Rattle.cut_reports.specs.inner.Places.{IfThere}
use Rattle.cut_reports.specs.Feeding.{IsKept, Rises, RoseAt}
use Rattle.cut_reports.specs.inner.Feeding.{ChosenTake, Fed, TakesEach, TookSets}
use Rattle.cut_reports.proofs.Places.{all_same, among_at, chained, next_unmoved}

-- ---- the next of the chosen

first_of : {R : Type 0} (width_of : R → Option ℕ) (set : List ℕ) (x : Option R) → IfThere x (λ report. TakesEach (width_of report) (set ∷ [])) → IfThere x (λ report. TakesSet (width_of report) set)
first_of width_of set None h = h
first_of width_of set (Some x) h = h.0

-- the next of the chosen takes the set
pub next_takes : {R : Type 0} (width_of : R → Option ℕ) (P : R → R → Type 0) (high : ℕ) (chosen set : List ℕ) (k d : ℕ) (before mid : List R)
    → RisesWithin 0 high chosen → k < length chosen → AtChosen (take k chosen) P before mid → ChosenTake width_of chosen (set ∷ []) before
    → IfThere (slice_get mid (get_or chosen k d)) (λ report. TakesSet (width_of report) set)
next_takes width_of P high chosen set k d before mid r h so takes =
    subst (λ x. IfThere x (λ report. TakesSet (width_of report) set)) (sym (next_unmoved P high chosen k d before mid r h so))
    (first_of width_of set (slice_get before (get_or chosen k d)) (takes (get_or chosen k d) (among_at chosen k d h)))

-- the count that rose at the next of the chosen
pub next_rose : {R : Type 0} (faults_of : R → ℕ) (P : R → R → Type 0) (high : ℕ) (chosen : List ℕ) (k d : ℕ) (before mid after : List R)
    → RisesWithin 0 high chosen → k < length chosen → AtChosen (take k chosen) P before mid → RoseAt faults_of (get_or chosen k d) mid after
    → RoseAt faults_of (get_or chosen k d) before after
next_rose faults_of P high chosen k d before mid after r h so rose =
    subst (λ x. Rises faults_of x (slice_get after (get_or chosen k d))) (next_unmoved P high chosen k d before mid r h so) rose

-- a fault at the next of the chosen
pub failed_there : {R : Type 0} (faults_of : R → ℕ) (P : R → R → Type 0) (high : ℕ) (chosen : List ℕ) (k d place : ℕ) (before mid after : List R)
    → RisesWithin 0 high chosen → k < length chosen → AtChosen (take k chosen) P before mid → place ≡ get_or chosen k d → RoseAt faults_of (get_or chosen k d) mid after
    → (is_among chosen place ≡ true) × RoseAt faults_of place before after
failed_there faults_of P high chosen k d place before mid after r h so is rose =
    (ap (is_among chosen) is ∙ among_at chosen k d h, subst (λ i. RoseAt faults_of i before after) (sym is) (next_rose faults_of P high chosen k d before mid after r h so rose))

-- ---- what is kept

pub kept_same : {R : Type 0} (text_of : R → List (List ℕ) → List (List ℕ) → List ℕ) (label_of : R → List ℕ) (faults_of : R → ℕ) (r : R) → IsKept text_of label_of faults_of r r
kept_same text_of label_of faults_of r = record { same_text = λ sets names. refl; same_label = refl; never_falls = le_refl (faults_of r) }

kept_twice : {R : Type 0} (text_of : R → List (List ℕ) → List (List ℕ) → List ℕ) (label_of : R → List ℕ) (faults_of : R → ℕ) (u v w : R)
    → IsKept text_of label_of faults_of u v → IsKept text_of label_of faults_of v w → IsKept text_of label_of faults_of u w
kept_twice text_of label_of faults_of u v w a b = record {
  same_text = λ sets names. b.same_text sets names ∙ a.same_text sets names;
  same_label = b.same_label ∙ a.same_label;
  never_falls = omega (arith, a.never_falls, b.never_falls);
}

pub kept_more : {R : Type 0} (text_of : R → List (List ℕ) → List (List ℕ) → List ℕ) (label_of : R → List ℕ) (faults_of : R → ℕ) (chosen : List ℕ) (x y z : List R)
    → AtChosen chosen (IsKept text_of label_of faults_of) x y → AtChosen chosen (IsKept text_of label_of faults_of) y z → AtChosen chosen (IsKept text_of label_of faults_of) x z
kept_more text_of label_of faults_of chosen x y z a b i =
    let P : _ → _ → Type 0 = IsKept text_of label_of faults_of in
    chained P P P (is_among chosen i) (slice_get x i) (slice_get y i) (slice_get z i) (kept_twice text_of label_of faults_of) (a i) (b i)

rose_later : (a b c : ℕ) → a ≤ b → Rose b c → Rose a c
rose_later a b c h (inl less) = inl (omega arith)
rose_later a b c h (inr last) = inr last

rises_later : {R : Type 0} (text_of : R → List (List ℕ) → List (List ℕ) → List ℕ) (label_of : R → List ℕ) (faults_of : R → ℕ) (a : Bool) (x y z : Option R) → a ≡ true
    → Both (SoOrSame a (IsKept text_of label_of faults_of)) x y → Rises faults_of y z → Rises faults_of x z
rises_later text_of label_of faults_of a None None z e h r = r
rises_later text_of label_of faults_of a None (Some y) z e h r = absurd h
rises_later text_of label_of faults_of a (Some x) None z e h r = absurd r
rises_later text_of label_of faults_of a (Some x) (Some y) None e h r = r
rises_later text_of label_of faults_of true (Some x) (Some y) (Some z) e h r = rose_later (faults_of x) (faults_of y) (faults_of z) h.never_falls r
rises_later text_of label_of faults_of false (Some x) (Some y) (Some z) e h r = absurd (false≢true e)

-- a count that rose later rose in all
pub rose_in_all : {R : Type 0} (text_of : R → List (List ℕ) → List (List ℕ) → List ℕ) (label_of : R → List ℕ) (faults_of : R → ℕ) (chosen : List ℕ) (place : ℕ) (x y z : List R)
    → AtChosen chosen (IsKept text_of label_of faults_of) x y → is_among chosen place ≡ true → RoseAt faults_of place y z → RoseAt faults_of place x z
rose_in_all text_of label_of faults_of chosen place x y z kept e rose =
    rises_later text_of label_of faults_of (is_among chosen place) (slice_get x place) (slice_get y place) (slice_get z place) e (kept place) rose

-- ---- what was fed

took_none : {R : Type 0} (stands : R → List (List ℕ) → Type 0) (width_of : R → Option ℕ) (r : R) → TookSets stands width_of [] r r
took_none stands width_of r = record { took = λ sets s. subst (λ list. stands r list) (sym (append-nil sets)) s; same_width = refl }

took_both : {R : Type 0} (stands : R → List (List ℕ) → Type 0) (width_of : R → Option ℕ) (a b : List (List ℕ)) (u v w : R)
    → TookSets stands width_of a u v → TookSets stands width_of b v w → TookSets stands width_of (a ++ b) u w
took_both stands width_of a b u v w h k = record {
  took = λ sets s. subst (λ list. stands w list) (append_assoc sets a b) (k.took (sets ++ a) (h.took sets s));
  same_width = k.same_width ∙ h.same_width;
}

pub fed_none : {R : Type 0} (stands : R → List (List ℕ) → Type 0) (width_of : R → Option ℕ) (chosen : List ℕ) (sets : List (List ℕ)) (xs : List R) → Fed stands width_of chosen sets sets xs xs
fed_none stands width_of chosen sets xs = record { given = []; whole = refl; took = all_same (TookSets stands width_of []) chosen xs (took_none stands width_of) }

pub fed_more : {R : Type 0} (stands : R → List (List ℕ) → Type 0) (width_of : R → Option ℕ) (chosen : List ℕ) (sets mid left : List (List ℕ)) (x y z : List R)
    → Fed stands width_of chosen sets mid x y → Fed stands width_of chosen mid left y z → Fed stands width_of chosen sets left x z
fed_more stands width_of chosen sets mid left x y z a b = record {
  given = a.given ++ b.given;
  whole = a.whole ∙ ap (λ w. a.given ++ w) b.whole ∙ sym (append_assoc a.given b.given left);
  took = λ i. chained (TookSets stands width_of a.given) (TookSets stands width_of b.given) (TookSets stands width_of (a.given ++ b.given)) (is_among chosen i)
      (slice_get x i) (slice_get y i) (slice_get z i) (took_both stands width_of a.given b.given) (a.took i) (b.took i);
}

-- nothing was left to feed
pub fed_nothing : {R : Type 0} (stands : R → List (List ℕ) → Type 0) (width_of : R → Option ℕ) (chosen : List ℕ) (sets left : List (List ℕ)) (xs : List R)
    → sets ≡ [] → left ≡ [] → Fed stands width_of chosen sets left xs xs
fed_nothing stands width_of chosen sets left xs e f = record { given = []; whole = e ∙ sym f; took = all_same (TookSets stands width_of []) chosen xs (took_none stands width_of) }

-- one set was fed
pub fed_one : {R : Type 0} (stands : R → List (List ℕ) → Type 0) (width_of : R → Option ℕ) (chosen set first : List ℕ) (sets left : List (List ℕ)) (x y : List R)
    → sets ≡ first ∷ left → set ≡ first → AtChosen chosen (TookSets stands width_of (set ∷ [])) x y → Fed stands width_of chosen sets left x y
fed_one stands width_of chosen set first sets left x y e f took = record { given = set ∷ []; whole = e ∙ ap (λ s. s ∷ left) (sym f); took = took }

-- all were fed
pub fed_all : {R : Type 0} (stands : R → List (List ℕ) → Type 0) (width_of : R → Option ℕ) (chosen : List ℕ) (sets left : List (List ℕ)) (x y : List R)
    → left ≡ [] → Fed stands width_of chosen sets left x y → AtChosen chosen (TookSets stands width_of sets) x y
fed_all stands width_of chosen sets left x y e f =
    let all : f.given ≡ sets = sym (f.whole ∙ ap (λ w. f.given ++ w) e ∙ append-nil f.given) in
    subst (λ given. AtChosen chosen (TookSets stands width_of given) x y) all f.took

each_later : (P : List ℕ → Type 0) (given left : List (List ℕ)) → AllByRecursion P (given ++ left) → AllByRecursion P left
each_later P [] left h = h
each_later P (set ∷ given) left h = each_later P given left h.1

takes_later : {R : Type 0} (stands : R → List (List ℕ) → Type 0) (width_of : R → Option ℕ) (given left : List (List ℕ)) (a : Bool) (x y : Option R)
    → Both (SoOrSame a (TookSets stands width_of given)) x y → IfThere x (λ report. TakesEach (width_of report) (given ++ left)) → IfThere y (λ report. TakesEach (width_of report) left)
takes_later stands width_of given left a None None so h = tt
takes_later stands width_of given left a None (Some y) so h = absurd so
takes_later stands width_of given left a (Some x) None so h = tt
takes_later stands width_of given left true (Some x) (Some y) so h = subst (λ width. TakesEach width left) (sym so.same_width) (each_later (TakesSet (width_of x)) given left h)
takes_later stands width_of given left false (Some x) (Some y) so h = subst (λ r. TakesEach (width_of r) left) (sym so) (each_later (TakesSet (width_of x)) given left h)

-- what is left is taken too
pub take_rest : {R : Type 0} (stands : R → List (List ℕ) → Type 0) (width_of : R → Option ℕ) (chosen : List ℕ) (sets left : List (List ℕ)) (x y : List R)
    → ChosenTake width_of chosen sets x → Fed stands width_of chosen sets left x y → ChosenTake width_of chosen left y
take_rest stands width_of chosen sets left x y takes f i e =
    takes_later stands width_of f.given left (is_among chosen i) (slice_get x i) (slice_get y i) (f.took i)
    (subst (λ all. IfThere (slice_get x i) (λ report. TakesEach (width_of report) all)) f.whole (takes i e))

-- the first of what is left is taken
pub take_first : {R : Type 0} (width_of : R → Option ℕ) (chosen set : List ℕ) (sets left : List (List ℕ)) (x : List R) → sets ≡ set ∷ left → ChosenTake width_of chosen sets x → ChosenTake width_of chosen (set ∷ []) x
take_first width_of chosen set sets left x e takes i c = only (slice_get x i) (subst (λ all. IfThere (slice_get x i) (λ report. TakesEach (width_of report) all)) e (takes i c)) where
  only : (o : Option _) → IfThere o (λ report. TakesEach (width_of report) (set ∷ left)) → IfThere o (λ report. TakesEach (width_of report) (set ∷ []))
  only None h = h
  only (Some r) h = (h.0, tt)
