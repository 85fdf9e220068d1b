-- Reports that were given a family by its counts.
use Rattle.std.proofs.Common.{◌≡◌, ℕ, ◌+◌, ◌<◌, ◌≤◌, List, [], ◌∷◌, ◌++◌, length, take, get_or, Option, Some, None, IfSome, Bool, true, false, cond, refl, sym, ap, subst, ◌∙◌, arith, ⊎_elim, append-nil}
use Rattle.std.specs.Prelude.{slice_get, ◌==◌, ◌||◌}
use Rattle.std.proofs.lemmas.Bool.{or_cases, eqb-true, eq-eqb, false≢true}
use Rattle.std.proofs.lemmas.List.Folds.{list_any-append}
use Rattle.plain_values.specs.Rising.{RisesWithin}
use Rattle.fta_outside.specs.Counts.{AreCountsOf, HaveWidth}
use Rattle.fta_outside.specs.declared.counts.FamilyCounts.{FamilyCounts}
use Rattle.cut_reports.specs.Places.{AtChosen, Both, SoOrSame, is_among}
use Rattle.cut_reports.specs.inner.Places.{IfThere}
use Rattle.cut_reports.specs.inner.Feeding.{AreFor, ChosenFit, GivenAt, GivenFamily, TakesEach, TookSets, given}
use Rattle.cut_reports.specs.Feeding.{RoseAt}
use Rattle.cut_reports.specs.inner.Feeding.{ChosenTake}
use Rattle.cut_reports.specs.inner.Texts.{Begun, FaultAt}
use Rattle.cut_reports.specs.declared.stop.ReportStop.{ReportStop}
use Rattle.cut_reports.specs.declared.stop.ReportStop.TheVariants.{Fault, Memory}
use Rattle.cut_reports.proofs.Places.{among_more, before_less, joined, none_yet, or-last, weaker}

-- a report of a width takes each set that the counts are for
pub takes_for : (width : Option ℕ) (counts : FamilyCounts) (sets : List (List ℕ)) → HaveWidth width counts → AreFor counts sets → TakesEach width sets
takes_for width counts sets fits are = subst (λ w. TakesEach w sets) (sym fits.of_events) are.each

-- a report that took nothing
pub took_none : {R : Type 0} (stands : R → List (List ℕ) → Type 0) (width_of : R → Option ℕ) (before after : R) → ((sets : List (List ℕ)) → stands before sets → stands after sets)
    → width_of after ≡ width_of before → TookSets stands width_of [] before after
took_none stands width_of before after same width = record {
  took = λ sets so. subst (stands after) (sym (append-nil sets)) (same sets so);
  same_width = width;
}

more-among : (ns : List ℕ) (n i : ℕ) → is_among (ns ++ n ∷ []) i ≡ (is_among ns i || (i == n))
more-among ns n i = list_any-append (λ m. i == m) ns (n ∷ []) ∙ or-last (is_among ns i) (i == n)

by-test : (b : Bool) → (b ≡ true → ⊥) → b ≡ false
by-test true h = absurd (h refl)
by-test false h = refl

differ : (i n : ℕ) → i < n → (i == n) ≡ false
differ i n less = by-test (i == n) (λ e. let same = eqb-true i n e in omega (arith, less, same))

or-false : (a b : Bool) → b ≡ false → (a || b) ≡ a
or-false true true e = absurd (false≢true (sym e))
or-false true false e = refl
or-false false true e = absurd (false≢true (sym e))
or-false false false e = refl

-- what reports took that were given it before is as it was
given-front : (did : Bool) (declined after : List ℕ) (sets : List (List ℕ)) (place i : ℕ) → after ≡ cond did declined (declined ++ place ∷ []) → (i == place) ≡ false → given declined sets i ≡ given after sets i
given-front true declined after sets place i noted apart = ap (λ (d : List ℕ). given d sets i) (sym noted)
given-front false declined after sets place i noted apart =
    ap (λ (b : Bool). cond b [] sets) (sym (or-false (is_among declined i) (i == place) apart) ∙ sym (more-among declined place i)) ∙ ap (λ (d : List ℕ). given d sets i) (sym noted)

or-true-last : (a b : Bool) → b ≡ true → (a || b) ≡ true
or-true-last true b e = refl
or-true-last false b e = e

-- what the report at the place itself took
given-here : (did : Bool) (declined after : List ℕ) (sets : List (List ℕ)) (place i : ℕ) → after ≡ cond did declined (declined ++ place ∷ []) → is_among declined i ≡ false → (i == place) ≡ true → cond did sets [] ≡ given after sets i
given-here true declined after sets place i noted apart here = ap (λ (b : Bool). cond b [] sets) (sym apart) ∙ ap (λ (d : List ℕ). given d sets i) (sym noted)
given-here false declined after sets place i noted apart here =
    ap (λ (b : Bool). cond b [] sets) (sym (or-true-last (is_among declined i) (i == place) here) ∙ sym (more-among declined place i)) ∙ ap (λ (d : List ℕ). given d sets i) (sym noted)

took-same : {R : Type 0} (stands : R → List (List ℕ) → Type 0) (width_of : R → Option ℕ) (a : Bool) (g h : List (List ℕ)) (x y : Option R) → (a ≡ true → g ≡ h)
    → Both (SoOrSame a (TookSets stands width_of g)) x y → Both (SoOrSame a (TookSets stands width_of h)) x y
took-same stands width_of true g h x y same took = subst (λ s. Both (SoOrSame true (TookSets stands width_of s)) x y) (same refl) took
took-same stands width_of false g h None None same took = tt
took-same stands width_of false g h None (Some y) same took = took
took-same stands width_of false g h (Some x) None same took = took
took-same stands width_of false g h (Some x) (Some y) same took = took

-- the places that declined are among those that were asked
pub record IsNoted (high : ℕ) (asked declined : List ℕ) : Type 0 where
  pub among : (i : ℕ) → is_among declined i ≡ true → is_among asked i ≡ true
  pub rising : RisesWithin 0 high declined

pub none_noted : (high : ℕ) (asked declined : List ℕ) → declined ≡ [] → IsNoted high asked declined
none_noted high asked declined none = record {
  among = λ i e. absurd (false≢true (sym (ap (λ (d : List ℕ). is_among d i) none) ∙ e));
  rising = subst (RisesWithin 0 high) (sym none) tt;
}

rises-last : (low high n : ℕ) (ns : List ℕ) → RisesWithin low high ns → low ≤ n → n < high → ((i : ℕ) → is_among ns i ≡ true → i < n) → RisesWithin low high (ns ++ n ∷ [])
rises-last low high n [] rises from less below = (from, less, tt)
rises-last low high n (m ∷ ms) rises from less below =
    let first : m < n = below m (ap (λ b. b || is_among ms m) (eq-eqb m m refl)) in
    (rises.0, rises.1, rises-last (m + 1) high n ms rises.2 (omega arith) less (λ i e. below i (or-true-last (i == m) (is_among ms i) e)))

-- one more was asked
pub noted_more : (high : ℕ) (chosen declined after : List ℕ) (did : Bool) (k d : ℕ) → RisesWithin 0 high chosen → k < length chosen → get_or chosen k d < high
    → after ≡ cond did declined (declined ++ get_or chosen k d ∷ []) → IsNoted high (take k chosen) declined → IsNoted high (take (k + 1) chosen) after
noted_more high chosen declined after true k d rises h inside noted is = record {
  among = λ i e. among_more chosen k d i h ∙ ap (λ b. b || (i == get_or chosen k d)) (is.among i (ap (λ (l : List ℕ). is_among l i) (sym noted) ∙ e));
  rising = subst (RisesWithin 0 high) (sym noted) is.rising;
}
noted_more high chosen declined after false k d rises h inside noted is = record {
  among = λ i e. among_more chosen k d i h ∙
      ⊎_elim (λ front. ap (λ b. b || (i == get_or chosen k d)) (is.among i front)) (λ last. or-true-last (is_among (take k chosen) i) (i == get_or chosen k d) last)
      (or_cases (is_among declined i) (i == get_or chosen k d) (sym (more-among declined (get_or chosen k d) i) ∙ ap (λ (l : List ℕ). is_among l i) (sym noted) ∙ e));
  rising =
      subst (RisesWithin 0 high) (sym noted)
      (rises-last 0 high (get_or chosen k d) declined is.rising (omega arith) inside (λ i e. before_less 0 high chosen k d i rises h (is.among i e)));
}

pub none_given : {R : Type 0} (stands : R → List (List ℕ) → Type 0) (width_of : R → Option ℕ) (counts : FamilyCounts) (declined : List ℕ) (xs : List R) → GivenFamily stands width_of [] counts declined xs xs
none_given {R = R} stands width_of counts declined xs sets are i = same (slice_get xs i) where
  same : (x : Option R) → Both (SoOrSame false (TookSets stands width_of (given declined sets i))) x x
  same None = tt
  same (Some x) = refl

-- one more of the chosen was given the family
pub given_more : {R : Type 0} (stands : R → List (List ℕ) → Type 0) (width_of : R → Option ℕ) (counts : FamilyCounts) (high : ℕ) (chosen : List ℕ) (k d : ℕ) (declined later : List ℕ) (before mid after : List R)
    → RisesWithin 0 high chosen → k < length chosen → IsNoted high (take k chosen) declined → GivenFamily stands width_of (take k chosen) counts declined before mid
    → GivenAt stands width_of counts (get_or chosen k d) declined later mid after → GivenFamily stands width_of (take (k + 1) chosen) counts later before after
given_more stands width_of counts high chosen k d declined later before mid after rises h noted so step sets are i =
    let here : ℕ = get_or chosen k d in
    let apart : (e : is_among (take k chosen) i ≡ true) → (i == here) ≡ false = λ e. differ i here (before_less 0 high chosen k d i rises h e) in
    let outside : (e : (i == here) ≡ true) → is_among declined i ≡ false = λ e. by-test (is_among declined i) (λ f. false≢true (sym (apart (noted.among i f)) ∙ e)) in
    subst (λ b. Both (SoOrSame b (TookSets stands width_of (given later sets i))) (slice_get before i) (slice_get after i)) (sym (among_more chosen k d i h))
    (joined (TookSets stands width_of (given later sets i)) (is_among (take k chosen) i) (i == here) (slice_get before i) (slice_get mid i) (slice_get after i)
    (λ a b. false≢true (sym (apart a) ∙ b))
    (took-same stands width_of (is_among (take k chosen) i) (given declined sets i) (given later sets i) (slice_get before i) (slice_get mid i) (λ e. given-front step.did declined later sets here i step.noted (apart e)) (so sets are i))
    (took-same stands width_of (i == here) (cond step.did sets []) (given later sets i) (slice_get mid i) (slice_get after i) (λ e. given-here step.did declined later sets here i step.noted (outside e) e) (step.gave sets are i)))

-- ---- those that declined, within the chosen

pub all_within : {R : Type 0} (P : R → R → Type 0) (declined chosen : List ℕ) (x y : List R) → ((r : R) → P r r) → ((i : ℕ) → is_among declined i ≡ true → is_among chosen i ≡ true)
    → AtChosen declined P x y → AtChosen chosen P x y
all_within P declined chosen x y same more so i = weaker P (is_among declined i) (is_among chosen i) (slice_get x i) (slice_get y i) same (more i) (so i)

pub faults_within : {R : Type 0} (faults_of : R → ℕ) (declined chosen : List ℕ) (stop : ReportStop) (x y : List R) → ((i : ℕ) → is_among declined i ≡ true → is_among chosen i ≡ true)
    → FaultAt (λ at. (is_among declined at ≡ true) × RoseAt faults_of at x y) stop → FaultAt (λ at. (is_among chosen at ≡ true) × RoseAt faults_of at x y) stop
faults_within faults_of declined chosen (Fault place) x y more f = (more place f.0, f.1)
faults_within faults_of declined chosen Memory x y more f = tt

-- where none is chosen nothing is to be done
pub none_chosen : {R : Type 0} (P : R → R → Type 0) (chosen : List ℕ) (xs : List R) → length chosen ≡ 0 → AtChosen chosen P xs xs
none_chosen P [] xs none = none_yet P xs
none_chosen P (n ∷ ns) xs none = absurd (omega arith)

took-rest : {R : Type 0} (stands : R → List (List ℕ) → Type 0) (width_of : R → Option ℕ) (sets : List (List ℕ)) (u v w : R)
    → TookSets stands width_of [] u v → TookSets stands width_of sets v w → TookSets stands width_of sets u w
took-rest stands width_of sets u v w h k = record {
  took = λ before s. subst (λ list. stands w (list ++ sets)) (append-nil before) (k.took (before ++ []) (h.took before s));
  same_width = k.same_width ∙ h.same_width;
}

took-both : {R : Type 0} (stands : R → List (List ℕ) → Type 0) (width_of : R → Option ℕ) (sets : List (List ℕ)) (c d : Bool) (x y z : Option R) → (d ≡ true → c ≡ true)
    → Both (SoOrSame c (TookSets stands width_of (cond d [] sets))) x y → Both (SoOrSame d (TookSets stands width_of sets)) y z → Both (SoOrSame c (TookSets stands width_of sets)) x z
took-both stands width_of sets c d None None None more h k = tt
took-both stands width_of sets c d None None (Some z) more h k = k
took-both stands width_of sets c d None (Some y) z more h k = absurd h
took-both stands width_of sets c d (Some x) None z more h k = absurd h
took-both stands width_of sets c d (Some x) (Some y) None more h k = k
took-both stands width_of sets true true (Some x) (Some y) (Some z) more h k = took-rest stands width_of sets x y z h k
took-both stands width_of sets true false (Some x) (Some y) (Some z) more h k = subst (λ w. TookSets stands width_of sets x w) (sym k) h
took-both stands width_of sets false true (Some x) (Some y) (Some z) more h k = absurd (false≢true (more refl))
took-both stands width_of sets false false (Some x) (Some y) (Some z) more h k = k ∙ h

-- the chosen took all sets: by their counts, or, where they declined, one by one
pub took_all : {R : Type 0} (stands : R → List (List ℕ) → Type 0) (width_of : R → Option ℕ) (chosen : List ℕ) (counts : FamilyCounts) (declined : List ℕ) (sets : List (List ℕ)) (x y z : List R)
    → ((i : ℕ) → is_among declined i ≡ true → is_among chosen i ≡ true) → AreFor counts sets → GivenFamily stands width_of chosen counts declined x y
    → AtChosen declined (TookSets stands width_of sets) y z → AtChosen chosen (TookSets stands width_of sets) x z
took_all stands width_of chosen counts declined sets x y z more are so rest i =
    took-both stands width_of sets (is_among chosen i) (is_among declined i) (slice_get x i) (slice_get y i) (slice_get z i) (more i) (so sets are i) (rest i)

takes-still : {R : Type 0} (stands : R → List (List ℕ) → Type 0) (width_of : R → Option ℕ) (given sets : List (List ℕ)) (a : Bool) (x y : Option R)
    → Both (SoOrSame a (TookSets stands width_of given)) x y → IfThere x (λ report. TakesEach (width_of report) sets) → IfThere y (λ report. TakesEach (width_of report) sets)
takes-still stands width_of given sets a None None so h = tt
takes-still stands width_of given sets a None (Some y) so h = absurd so
takes-still stands width_of given sets a (Some x) None so h = tt
takes-still stands width_of given sets true (Some x) (Some y) so h = subst (λ width. TakesEach width sets) (sym so.same_width) h
takes-still stands width_of given sets false (Some x) (Some y) so h = subst (λ r. TakesEach (width_of r) sets) (sym so) h

-- those that declined take the sets still
pub declined_take : {R : Type 0} (stands : R → List (List ℕ) → Type 0) (width_of : R → Option ℕ) (chosen : List ℕ) (counts : FamilyCounts) (declined : List ℕ) (sets : List (List ℕ)) (x y : List R)
    → ((i : ℕ) → is_among declined i ≡ true → is_among chosen i ≡ true) → AreFor counts sets → GivenFamily stands width_of chosen counts declined x y
    → ChosenTake width_of chosen sets x → ChosenTake width_of declined sets y
declined_take stands width_of chosen counts declined sets x y more are so takes i e =
    takes-still stands width_of (given declined sets i) sets (is_among chosen i) (slice_get x i) (slice_get y i) (so sets are i) (takes i (more i e))

fits-begun : {R : Type 0} (stands : R → List (List ℕ) → Type 0) (width_of : R → Option ℕ) (events : ℕ) (counts : FamilyCounts) (a : Bool) (x y : Option R) → a ≡ true
    → Both (SoOrSame a (Begun stands width_of events)) x y → HaveWidth (Some events) counts → IfThere y (λ report. HaveWidth (width_of report) counts)
fits-begun stands width_of events counts a x None e h fit = tt
fits-begun stands width_of events counts a None (Some y) e h fit = absurd h
fits-begun stands width_of events counts false (Some x) (Some y) e h fit = absurd (false≢true e)
fits-begun stands width_of events counts true (Some x) (Some y) e h fit = subst (λ width. HaveWidth width counts) (sym h.width_is) fit

-- the counts are for reports that were begun for as many events
pub begun_fit : {R : Type 0} (stands : R → List (List ℕ) → Type 0) (width_of : R → Option ℕ) (chosen : List ℕ) (events : ℕ) (counts : FamilyCounts) (x y : List R)
    → AtChosen chosen (Begun stands width_of events) x y → HaveWidth (Some events) counts → ChosenFit width_of chosen counts y
begun_fit stands width_of chosen events counts x y begun fit i e = fits-begun stands width_of events counts (is_among chosen i) (slice_get x i) (slice_get y i) e (begun i) fit

pub are_for : (events : ℕ) (counts : FamilyCounts) (sets : List (List ℕ)) → HaveWidth (Some events) counts → TakesEach (Some events) sets → AreCountsOf counts sets → AreFor counts sets
are_for events counts sets fit each counted = record { each = subst (λ width. TakesEach width sets) fit.of_events each; counted = counted }

-- where there are counts they are for reports that were begun for as many events
pub some_fit : {R : Type 0} (stands : R → List (List ℕ) → Type 0) (width_of : R → Option ℕ) (chosen : List ℕ) (events : ℕ) (counts : Option FamilyCounts) (x y : List R)
    → AtChosen chosen (Begun stands width_of events) x y → IfSome counts (HaveWidth (Some events)) → IfSome counts (λ found. ChosenFit width_of chosen found y)
some_fit stands width_of chosen events None x y begun fit = tt
some_fit stands width_of chosen events (Some found) x y begun fit = begun_fit stands width_of chosen events found x y begun fit

pub some_for : (events : ℕ) (counts : Option FamilyCounts) (sets : List (List ℕ)) → IfSome counts (HaveWidth (Some events)) → TakesEach (Some events) sets → IfSome counts (λ found. AreCountsOf found sets)
    → IfSome counts (λ found. AreFor found sets)
some_for events None sets fit each counted = tt
some_for events (Some found) sets fit each counted = are_for events found sets fit each counted
