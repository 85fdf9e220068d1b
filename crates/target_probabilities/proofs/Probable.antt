-- How probable a target is, by the family of its minimal cut sets.
use Rattle.std.proofs.Common.{ℕ, zero, suc, ◌+◌, ◌*◌, ◌^◌, ◌<◌, ◌≤◌, ◌≡◌, Bool, true, false, List, [], ◌∷◌, ◌++◌, filter, length, map, slice_get, Contains, Option, Some, None, inl, inr, refl, sym, ap, subst, ◌∙◌, arith}
use Rattle.std.specs.Prelude.{◌⊎◌, ◌-◌, ◌==◌, codes, decimal, nat_lt, unwrap_or, if◌then◌else◌}
use Rattle.std.specs.List.{AllByRecursion}
use Rattle.std.proofs.lemmas.Bool.{and_from, and_parts, eq-eqb, false≢true}
use Rattle.std.proofs.lemmas.Fmt.{decimal_digit}
use Rattle.std.proofs.lemmas.Option.{slice_get_within, unwrap_or-slice_get}
use Rattle.plain_values.specs.Numbered.{numbers_below}
use Rattle.plain_values.specs.Rising.{RisesWithin}
use Rattle.plain_values.proofs.Rising.{rises-push}
use Rattle.fault_system.specs.Truth.{NumberSet, Has, set_of}
use Rattle.fault_system.specs.Systems.{System, IsSystem, Holds}
use Rattle.fault_system.specs.CutSets.{IsCutSet, IsEventSet, IsSubset}
use Rattle.fault_system.specs.inner.Listings.{listing}
use Rattle.fault_system.proofs.CutSetLaws.{Holds-grows, makes_hold-exact}
use Rattle.fault_system.proofs.ListingLaws.{covers, listing-exact}
use Rattle.fault_system.proofs.NumberSets.{RisesWithin-at, RisesWithin-filter, contained-in_set, set_of-filter, set_of-first}
use Rattle.dependency_blocks.proofs.AllFacts.{below-contained}
use Rattle.decimals.specs.Decimals.{parts, AreNear}
use Rattle.decimals.specs.DecimalTexts.{decimal_text, figures_text, power_text, trimmed, trimmed_text}
use Rattle.decimals.specs.declared.numeral.Numeral.{Numeral}
use Rattle.decimals.specs.inner.Figures.{IsReadAs}
use Rattle.decimals.specs.Numerals.{Number}
use Rattle.galileo_writer.specs.TreeText.{rate_of}
use Rattle.property_reader.specs.Rates.{conservative_rate}
use Rattle.property_reader.specs.declared.rate.Rate.{Rate}
use Rattle.decimals.specs.declared.decimal.Decimal.{Decimal}
use Rattle.zdd_store.specs.inner.Family.{Family, covers as family_covers, is_within, least_number, IsAntichain}
use Rattle.zdd_store.specs.inner.Store.{Families, IsIn, IsSound, family_at, family_of}
use Rattle.zdd_store.specs.declared.id.Id.{Id}
use Rattle.zdd_store.proofs.Growing.{last_or_before}
use Rattle.zdd_store.proofs.Orders.{contains_first}
use Rattle.zdd_families.proofs.Booleans.{same_test}
use Rattle.zdd_families.proofs.Covers.{covers_member, member_covers}
use Rattle.zdd_families.proofs.Subsets.{within_from, within_has}
use Rattle.probabilities.specs.declared.rates.Bounds.{Bounds}
use Rattle.probabilities.specs.declared.rates.Rate.{Rate as EventBounds}
use Rattle.probabilities.specs.Rates.{Rates}
use Rattle.probabilities.specs.Weights.{weight, numbers}
use Rattle.probabilities.specs.Decided.{FitsWhole, rates_of}
use Rattle.probabilities.specs.Certain.{certain}
use Rattle.probabilities.specs.inner.Certain.{AreCertainBounds}
use Rattle.probabilities.specs.inner.Cofactors.{IsGivenUp}
use Rattle.probabilities.specs.inner.Decided.{AreBoundsOf, AreEnds, FitWhole, IsNothing, IsWhole}
use Rattle.probabilities.specs.inner.Sharp.{AreSharp, IsSharp}
use Rattle.probabilities.specs.inner.Widths.{IsNarrowed}
use Rattle.probabilities.proofs.Deciding.{rates_rated}
use Rattle.probabilities.proofs.Setting.{rates_parted}
use Rattle.event_probabilities.specs.declared.rating.EventRate.{EventRate}
use Rattle.probability_lines.specs.declared.line.EventImportance.{EventImportance}
use Rattle.cutset_engine.specs.inner.Families.{HasMinimalCutSets}
use Rattle.cutset_engine.proofs.CutSets.{has-set_of, holds-range}
use Rattle.target_probabilities.specs.Probability.{AreEach, AreImportances, AreKnown, AreSharpFor, AreTargetBounds, AreTold, BoundTarget, HasMoreCases, IsImportance, IsProbability, IsRateKnown, bounds_known, holds_under, hours_of, most_cases, times_held, told_events}
use Rattle.target_probabilities.specs.inner.Probable.{AreKnownSo, AreOfFamily, IsOfFamily}
use Rattle.target_probabilities.proofs.Cases.{more_cases}

-- ---- lists by place

-- of no item
pub each_none : {X : Type 0} (Is : ℕ → X → Type 0) → AreEach Is 0 []
each_none Is = record { all = refl; each = λ place item at. absurd (let h : place < 0 = slice_get_within [] place item at in omega (arith, h)) }

length_more : {X : Type 0} (xs : List X) (x : X) → length (xs ++ x ∷ []) ≡ length xs + 1
length_more [] x = omega arith
length_more (y ∷ ys) x = let h = length_more ys x in omega (arith, h)

-- of one item more
pub each_pushed : {X : Type 0} (Is : ℕ → X → Type 0) (count : ℕ) (xs : List X) (x : X) → AreEach Is count xs → Is count x → AreEach Is (count + 1) (xs ++ x ∷ [])
each_pushed {X = X} Is count xs x are is = record { all = length_more xs x ∙ ap (λ n. n + 1) are.all; each = λ place item at. by place item (last_or_before xs x item place at) }
  where
    by : (place : ℕ) (item : X) → (slice_get xs place ≡ Some item) ⊎ ((place ≡ length xs) × (x ≡ item)) → Is place item
    by place item (inl before) = are.each place item before
    by place item (inr last) = subst (λ (n : ℕ). Is n item) (sym (last.0 ∙ are.all)) (subst (λ y. Is count y) last.1 is)

-- what is made of a list has at a place what is made of its item there
mapped : {X Y : Type 0} (f : X → Y) (xs : List X) (n : ℕ) (y : Y) → slice_get (map f xs) n ≡ Some y → (x : X) × (slice_get xs n ≡ Some x) × (f x ≡ y)
mapped f [] n y at = absurd (let h : n < 0 = slice_get_within [] n y at in omega (arith, h))
mapped f (x ∷ xs) zero y at = (x, refl, cc (at))
mapped f (x ∷ xs) (suc n) y at = mapped f xs n y at

length_map : {X Y : Type 0} (f : X → Y) (xs : List X) → length (map f xs) ≡ length xs
length_map f [] = refl
length_map f (x ∷ xs) = ap suc (length_map f xs)

-- the bounds of events fit the whole, and there are as many
pub known_fit : (whole count : ℕ) (rates : List Rate) (hours : Option Numeral) (known : List EventRate) → AreKnownSo whole rates hours count known → FitWhole whole (bounds_known known)
known_fit whole count rates hours known are event rate at =
    let found = mapped (λ (its : EventRate). its.rate) known event rate at in
    subst (FitsWhole whole) found.2 (are.each event found.0 found.1).fits

pub known_all : (count : ℕ) (known : List EventRate) → length known ≡ count → length (bounds_known known) ≡ count
known_all count known all = length_map (λ (its : EventRate). its.rate) known ∙ all

-- what is known of the rate that a list has for an event, or of the conservative one where it has none
pub known_at : (whole : ℕ) (rates : List Rate) (event : ℕ) (given : Option Number) (its : EventRate) (found : Option Rate) → slice_get rates event ≡ found → IsRateKnown whole (unwrap_or found conservative_rate) given its → IsRateKnown whole (rate_of rates event) given its
known_at whole rates event given its found at is =
    subst (λ (rate : Rate). IsRateKnown whole rate given its) (sym (sym (unwrap_or-slice_get rates event conservative_rate) ∙ ap (λ (o : Option Rate). unwrap_or o conservative_rate) at)) is

-- what is known for each reading of the hours is known for one
pub known_read : (whole : ℕ) (system : System) (rates : List Rate) (text : Option (List ℕ)) (hours : Option Numeral) (known : List EventRate) → IsReadAs (hours_of text) hours
    → AreKnownSo whole rates hours (length system.events) known → AreKnown whole system rates text known
known_read whole system rates text hours known read are = record { all = are.all; each = λ event its at. (are.each event its at).known (hours_of text) read }

-- ---- the minimal cut sets of a target

rises_below : (count : ℕ) → RisesWithin 0 count (numbers_below count)
rises_below zero = tt
rises_below (suc count) =
    let same : count + 1 ≡ suc count = omega arith in
    subst (λ high. RisesWithin 0 high (numbers_below (suc count))) same (rises-push 0 count (numbers_below count) (omega arith) (rises_below count))

module _ (system : System) (is : IsSystem system) (target : ℕ) (family : Family) (exact : HasMinimalCutSets system target None family) where
  subset_within : (part whole : List ℕ) → IsSubset part whole → is_within part whole ≡ true
  subset_within part whole s = within_from part whole (λ x h. has-set_of whole x ∙ s x (sym (has-set_of part x) ∙ h))

  within_subset : (part whole : List ℕ) → is_within part whole ≡ true → IsSubset part whole
  within_subset part whole w n h = sym (has-set_of whole n) ∙ within_has part whole n w (has-set_of part n ∙ h)

  covered_holds : (set : List ℕ) → family_covers family set ≡ true → holds_under system target set ≡ true
  covered_holds set on =
      let c = member_covers family set on in
      let minimal = ((exact c.part).0 c.member).0 in
      (makes_hold-exact system target (set_of set)).1 (Holds-grows system target (set_of c.part) (set_of set) (within_subset c.part set c.within) target minimal.0.1)

  -- the events of the system that a set has, rising
  abbrev events_in : List ℕ → List ℕ
  events_in set = filter (set_of set) (numbers_below (length system.events))

  in_events : (set : List ℕ) (n : ℕ) → n < length system.events → Has (set_of set) n → Has (set_of (events_in set)) n
  in_events set n few here =
      set_of-filter (set_of set) (numbers_below (length system.events)) n
      ∙ and_from _ _ (contained-in_set (numbers_below (length system.events)) n ((below-contained (length system.events) n).1 few)) here

  from_events : (set : List ℕ) (n : ℕ) → Has (set_of (events_in set)) n → Has (set_of set) n
  from_events set n here = (and_parts _ _ (sym (set_of-filter (set_of set) (numbers_below (length system.events)) n) ∙ here)).1

  holds_covered : (set : List ℕ) → holds_under system target set ≡ true → family_covers family set ≡ true
  holds_covered set on =
      let holds = (makes_hold-exact system target (set_of set)).0 on in
      let some : Holds system (set_of (events_in set)) target = holds-range system is (set_of set) (set_of (events_in set)) (in_events set) target holds in
      let rises : IsEventSet system (events_in set) = RisesWithin-filter (set_of set) 0 (length system.events) (numbers_below (length system.events)) (rises_below (length system.events)) in
      let all = listing-exact system target None in
      let found = (covers system target None (listing system target None) (events_in set) all rises tt).0 some in
      covers_member family found.0 set ((exact found.0).1 ((all.exact found.0).0 found.1)) (subset_within found.0 set (λ n k. from_events set n (found.2 n k)))

  -- the family covers exactly the sets under which the target holds
  pub covers_as : (set : List ℕ) → family_covers family set ≡ holds_under system target set
  covers_as set = same_test (family_covers family set) (holds_under system target set) (covered_holds set) (holds_covered set)

  same_condition : family_covers family ≡ holds_under system target
  same_condition = λ i set. covers_as set i

  weights : (d : ℕ) (m : ℕ → ℕ) → weight d m (numbers (length system.events) 0) (family_covers family) ≡ times_held system target d m
  weights d m = ap (weight d m (numbers (length system.events) 0)) same_condition

  -- no set of it is within another
  pub antichain : IsAntichain family
  antichain part whole here there within = ((exact whole).0 there).0.1 part ((exact part).0 here).0.0 (within_subset part whole within)

  -- ---- bounds

  bound_target : (whole : ℕ) (rates : Rates) (bounds : Bounds) → AreBoundsOf whole rates (length system.events) family bounds → BoundTarget whole system target rates bounds
  bound_target whole rates bounds right = record {
    lower = λ d m within. subst (λ w. parts bounds.lower * d ^ length system.events ≤ w * 10 ^ whole) (weights d m) (right.lower d m (length system.events) 0 within (omega arith) (omega arith));
    upper = λ d m within. subst (λ w. w * 10 ^ whole ≤ parts bounds.upper * d ^ length system.events) (weights d m) (right.upper d m (length system.events) 0 within (omega arith) (omega arith));
    most = right.most;
  }

  sharp_target : (whole places : ℕ) (rates : Rates) (bounds : Bounds) → AreSharp whole places rates (length system.events) family bounds → AreSharpFor whole system target rates bounds
  sharp_target whole places rates bounds sharp = record {
    lower = subst (λ w. AreNear (3 * length system.events) (w * 10 ^ whole) (parts bounds.lower * (10 ^ whole) ^ length system.events)) (weights (10 ^ whole) rates.low) (sharp.lower (length system.events) 0 (omega arith) (omega arith));
    upper = subst (λ w. AreNear (3 * length system.events) (parts bounds.upper * (10 ^ whole) ^ length system.events) (w * 10 ^ whole)) (weights (10 ^ whole) rates.high) (sharp.upper (length system.events) 0 (omega arith) (omega arith));
  }

  module _ (whole : ℕ) (known : List EventBounds) (all : length known ≡ length system.events) where
    abbrev room : (places : ℕ) → places * length system.events ≤ whole → places * length known ≤ whole
    room places enough = subst (λ (n : ℕ). places * n ≤ whole) (sym all) enough

    pub bounds_target : (bounds : Bounds) → AreBoundsOf whole (rates_of whole known) (length known) family bounds → IsSharp whole known family bounds → IsNarrowed whole known family bounds
        → AreTargetBounds whole system target known (rates_of whole known) bounds
    bounds_target bounds right sharp narrow = record {
      bound = bound_target whole (rates_of whole known) bounds (subst (λ (n : ℕ). AreBoundsOf whole (rates_of whole known) n family bounds) all right);
      sharp = λ places are enough.
          sharp_target whole places (rates_of whole known) bounds
          (subst (λ (n : ℕ). AreSharp whole places (rates_of whole known) n family bounds) all (sharp (rates_of whole known) places (rates_parted whole places known are) (rates_rated whole known) are (room places enough)));
      narrow = λ places units are enough. (length known - least_number family, omega (arith, all), narrow places units are (room places enough));
    }

    pub certain_target : (k event : ℕ) (bounds : Bounds) → AreCertainBounds whole k known event family bounds → AreTargetBounds whole system target known (certain (10 ^ whole) k event (rates_of whole known)) bounds
    certain_target k event bounds at = record {
      bound = bound_target whole (certain (10 ^ whole) k event (rates_of whole known)) bounds
          (subst (λ (n : ℕ). AreBoundsOf whole (certain (10 ^ whole) k event (rates_of whole known)) n family bounds) all at.right);
      sharp = λ places are enough.
          sharp_target whole places (certain (10 ^ whole) k event (rates_of whole known)) bounds
          (subst (λ (n : ℕ). AreSharp whole places (certain (10 ^ whole) k event (rates_of whole known)) n family bounds) all (at.sharp places are (room places enough)));
      narrow = λ places units are enough. (length known - least_number family, omega (arith, all), at.narrow places units are (room places enough));
    }

    each_importance : (list : List EventImportance) → AllByRecursion (IsOfFamily whole known family) list → AllByRecursion (λ its. IsImportance whole system target known its.event its.both) list
    each_importance [] are = tt
    each_importance (its ∷ list) are =
        (record { never = certain_target 0 its.event its.both.never are.0.never; always = certain_target (10 ^ whole) its.event its.both.always are.0.always }, each_importance list are.1)

    pub importances_target : (events : List ℕ) (list : List EventImportance) → AreOfFamily whole known family events list → AreImportances whole system target known events list
    importances_target events list are = record { events_are = are.events_are; each = each_importance list are.each }

  -- where it is given up, there are more cases
  pub given_up_cases : (count most : ℕ) → count ≡ length system.events → IsGivenUp count most family → HasMoreCases most (holds_under system target)
  given_up_cases count most all (inl event) =
      let rises : IsEventSet system event.set = ((exact event.set).0 event.member).0.0.0 in
      let few = (RisesWithin-at 0 (length system.events) event.set event.event rises (sym (has-set_of event.set event.event) ∙ event.stands)).1 in
      let without = event.without in
      absurd (omega (arith, few, without, all))
  given_up_cases count most all (inr has_more) = more_cases family (holds_under system target) covers_as most has_more

-- ---- targets that hold always, or never

one_text : (whole power : ℕ) → power ≡ whole → trimmed_text whole power (trimmed 18 0 1) ≡ codes "1"
one_text whole power same =
    ap (figures_text whole (power + (trimmed 18 0 1).zeros)) (decimal_digit 1 (omega arith)) ∙ ap (λ (text : List ℕ). 49 ∷ text) (none (0 + (power + 0)) (omega (arith, same)))
  where
    none : (n : ℕ) → n ≡ whole → power_text whole n ≡ []
    none n is = ap (λ (b : Bool). if b then [] else (if nat_lt whole n then 101 ∷ decimal (n - whole) else 101 ∷ (45 ∷ decimal (whole - n)))) (eq-eqb n whole is)

whole_text : (whole : ℕ) (x : Decimal) → IsWhole whole x → decimal_text whole x ≡ codes "1"
whole_text whole x is = ap (λ (n : ℕ). if n == 0 then codes "0" else trimmed_text whole x.exponent (trimmed 18 0 n)) is.0 ∙ one_text whole x.exponent is.1

nothing_text : (whole : ℕ) (x : Decimal) → IsNothing x → decimal_text whole x ≡ codes "0"
nothing_text whole x is = ap (λ (n : ℕ). if n == 0 then codes "0" else trimmed_text whole x.exponent (trimmed 18 0 n)) is

module _ (store : Families) (sound : IsSound store) (system : System) (target : ℕ) (id : Id) (there : IsIn store id) (exact : HasMinimalCutSets system target None (family_of store id)) where
  no_member : (set : List ℕ) → Contains [] set → ⊥
  no_member set (place, fits, same) = absurd (omega (arith, fits))

  only_member : (set : List ℕ) → Contains ([] ∷ []) set → [] ≡ set
  only_member set (zero, fits, same) = same
  only_member set (suc place, fits, same) = absurd (omega (arith, fits))

  module _ (always : (events : NumberSet) → Holds system events target) where
    empty_cut : IsCutSet system target []
    empty_cut = (tt, always (set_of []))

    empty_within : (set : List ℕ) → IsSubset [] set
    empty_within set n h = absurd (false≢true h)

    full_there : (set : List ℕ) → Contains (family_at store id.position) set → Contains (family_at store 1) set
    full_there set here =
        let minimal = ((exact set).0 here).0 in
        subst (λ f. Contains f set) (sym sound.unit) (subst (Contains ([] ∷ [])) (minimal.1 [] empty_cut (empty_within set)) (contains_first [] []))

    full_back : (set : List ℕ) → Contains (family_at store 1) set → Contains (family_at store id.position) set
    full_back set here =
        let none : [] ≡ set = only_member set (subst (λ f. Contains f set) sound.unit here) in
        subst (Contains (family_at store id.position)) none ((exact []).1 ((empty_cut, λ other cut part. nothing other part), tt))
      where
        nothing : (other : List ℕ) → IsSubset other [] → other ≡ []
        nothing [] part = refl
        nothing (n ∷ ns) part = absurd (false≢true (part n (set_of-first n ns)))

    pub always_full : family_of store id ≡ [] ∷ []
    always_full = ap (family_at store) (sound.canonical id.position 1 there sound.some (λ set. (full_there set, full_back set))) ∙ sound.unit

  pub never_empty : ((events : NumberSet) → Holds system events target → ⊥) → family_of store id ≡ []
  never_empty never =
      ap (family_at store) (sound.canonical id.position 0 there (let some = sound.some in omega (arith, some))
      (λ set. ((λ here. absurd (never (set_of set) ((exact set).0 here).0.0.1)), (λ here. absurd (no_member set (subst (λ f. Contains f set) sound.empty here))))))
      ∙ sound.empty

  pub probability_target : (whole : ℕ) (known : List EventBounds) (bounds : Bounds) → AreEnds whole (family_of store id) bounds
      → AreTargetBounds whole system target known (rates_of whole known) bounds → IsProbability whole system target known bounds
  probability_target whole known bounds ends are = record {
    right = are;
    always = λ holds. let full = ends.full (always_full holds) in (whole_text whole bounds.lower full.0, whole_text whole bounds.upper full.1);
    never = λ fails. let none = ends.none (never_empty fails) in (nothing_text whole bounds.lower none.0, nothing_text whole bounds.upper none.1);
  }

-- ---- what is told

-- nothing is told where there are more cases than are looked at
pub told_none : (whole : ℕ) (system : System) (target : ℕ) (known : List EventBounds) (events : List ℕ) (bounds : Option Bounds) (importances : List EventImportance) → bounds ≡ None → importances ≡ []
    → HasMoreCases most_cases (holds_under system target) → AreTold whole system target known events bounds importances
told_none whole system target known events bounds importances none nothing more =
    subst (λ (b : Option Bounds). AreTold whole system target known events b importances) (sym none) (more, nothing)

-- the events of a slice are among those of the system
pub all_inside : (count : ℕ) (asked : Bool) (events : List ℕ) → RisesWithin 0 count events → AllByRecursion (λ event. event < count) (told_events asked events)
all_inside count false events rises = tt
all_inside count true events rises = within 0 events rises
  where
    within : (low : ℕ) (es : List ℕ) → RisesWithin low count es → AllByRecursion (λ event. event < count) es
    within low [] r = tt
    within low (e ∷ es) r = (r.1, within (e + 1) es r.2)
