-- Rates of which one is another.
use Rattle.std.proofs.Common.{ℕ, ◌+◌, ◌-◌, ◌*◌, ◌^◌, ◌≤◌, ◌<◌, ◌≡◌, ◌==◌, ◌∙◌, sym, subst, refl, ap, Bool, true, false, if◌then◌else◌, inl, inr, List, length, slice_get, slice_set, get_or, Option, Some, None, arith}
use Rattle.std.specs.Prelude.{◌⊎◌, Result, Ok, Err, IfOk, IfSome}
use Rattle.std.specs.declared.alloc.AllocError.{AllocError}
use Rattle.std.proofs.lemmas.Bool.{eqb-true, eqb-false, eq-eqb, ne_eqb, false≢true}
use Rattle.std.proofs.lemmas.Option.{slice_get_within, slice_get-get_or, get_or_from_slice_get}
use Rattle.std.proofs.lemmas.List.{get_or-set_same, get_or-set_other, length-set}
use Rattle.decimals.specs.Decimals.{parts}
use Rattle.zdd_store.specs.inner.Family.{Family, least_number}
use Rattle.probabilities.specs.declared.rates.Bounds.{Bounds}
use Rattle.probabilities.specs.declared.rates.Rate.{Rate}
use Rattle.probabilities.specs.Rates.{Rates}
use Rattle.probabilities.specs.inner.Rates.{AreRates}
use Rattle.probabilities.specs.Decided.{rates_of, low_of, high_of}
use Rattle.probabilities.specs.inner.Decided.{AreBoundsOf, AreRated, IsRateOf, FitWhole}
use Rattle.probabilities.specs.Widths.{AreNarrow, AreNarrowRates, IsNarrowRate}
use Rattle.probabilities.specs.Sharp.{AreSharpRates, IsSharpRate}
use Rattle.probabilities.specs.inner.Sharp.{AreParted, AreSharp}
use Rattle.probabilities.specs.inner.Remembered.{IsBounded}
use Rattle.probabilities.specs.Certain.{certain}
use Rattle.probabilities.specs.inner.Certain.{IsCertain, AreCertainBounds}
use Rattle.probabilities.proofs.Deciding.{rates_right, rates_rated}

-- the rate at a number
at_set : (list : List Rate) (event e : ℕ) (rate r : Rate) → event < length list → slice_get (slice_set list event rate) e ≡ Some r → ((e ≡ event) × (r ≡ rate)) ⊎ ((e ≡ event → ⊥) × (slice_get list e ≡ Some r))
at_set list event e rate r inside is = at (e == event) refl
  where
    same : length (slice_set list event rate) ≡ length list
    same = length-set list event rate

    here : get_or (slice_set list event rate) e r ≡ r
    here = get_or_from_slice_get (slice_set list event rate) e r r is

    within : e < length list
    within = let h = slice_get_within (slice_set list event rate) e r is in omega (arith, same)

    at : (b : Bool) → (e == event) ≡ b → ((e ≡ event) × (r ≡ rate)) ⊎ ((e ≡ event → ⊥) × (slice_get list e ≡ Some r))
    at true eq =
        let h = eqb-true e event eq in
        inl (h, sym here ∙ (ap (λ (k : ℕ). get_or (slice_set list event rate) k r) h ∙ get_or-set_same list event rate r inside))
    at false eq =
        let apart = eqb-false e event eq in
        inr (apart, slice_get-get_or list e r within ∙ ap (λ (x : Rate). Some x) (sym (get_or-set_other list event e rate r apart) ∙ here))

pick_true : {X : Type 0} (b : Bool) (x y : X) → b ≡ true → (if b then x else y) ≡ x
pick_true true x y is = refl
pick_true false x y is = absurd (false≢true is)

pick_false : {X : Type 0} (b : Bool) (x y : X) → b ≡ false → (if b then x else y) ≡ y
pick_false false x y is = refl
pick_false true x y is = absurd (false≢true (sym is))

certain_rated : (whole k event : ℕ) (list : List Rate) (rate : Rate) → event < length list → IsCertain whole k rate → AreRated (slice_set list event rate) (certain (10 ^ whole) k event (rates_of whole list))
certain_rated whole k event list rate inside is e r found = at (at_set list event e rate r inside found)
  where
    at : ((e ≡ event) × (r ≡ rate)) ⊎ ((e ≡ event → ⊥) × (slice_get list e ≡ Some r)) → IsRateOf (certain (10 ^ whole) k event (rates_of whole list)) e r
    at (inl here) =
        let b = eq-eqb e event here.0 in
        record {
          low = pick_true (e == event) k _ b ∙ (sym is.low ∙ ap (λ (x : Rate). parts x.low) (sym here.1));
          high = pick_true (e == event) k _ b ∙ (sym is.high ∙ ap (λ (x : Rate). parts x.high) (sym here.1));
          low_not = pick_true (e == event) (10 ^ whole - k) _ b ∙ (sym is.low_not ∙ ap (λ (x : Rate). parts x.low_not) (sym here.1));
          high_not = pick_true (e == event) (10 ^ whole - k) _ b ∙ (sym is.high_not ∙ ap (λ (x : Rate). parts x.high_not) (sym here.1));
        }
    at (inr there) =
        let b = ne_eqb e event there.0 in
        let old = rates_rated whole list e r there.1 in
        record {
          low = pick_false (e == event) k _ b ∙ old.low;
          high = pick_false (e == event) k _ b ∙ old.high;
          low_not = pick_false (e == event) (10 ^ whole - k) _ b ∙ old.low_not;
          high_not = pick_false (e == event) (10 ^ whole - k) _ b ∙ old.high_not;
        }

certain_right : (s k event : ℕ) (rates : Rates) → k ≤ s → AreRates s rates → AreRates s (certain s k event rates)
certain_right s k event rates few right = record { least = λ e. low (e == event) (rates.low_not e) (rates.low e) (right.least e); most = λ e. high (e == event) (rates.high_not e) (rates.high e) (right.most e) }
  where
    low : (b : Bool) (x y : ℕ) → x + y ≤ s → (if b then s - k else x) + (if b then k else y) ≤ s
    low true x y h = omega arith
    low false x y h = h

    high : (b : Bool) (x y : ℕ) → s ≤ x + y → s ≤ (if b then s - k else x) + (if b then k else y)
    high true x y h = omega arith
    high false x y h = h

narrow_set : (whole places units event : ℕ) (list : List Rate) (rate : Rate) → event < length list → IsNarrowRate whole places units rate → AreNarrowRates whole places units list → AreNarrowRates whole places units (slice_set list event rate)
narrow_set whole places units event list rate inside near all e r found = at (at_set list event e rate r inside found)
  where
    at : ((e ≡ event) × (r ≡ rate)) ⊎ ((e ≡ event → ⊥) × (slice_get list e ≡ Some r)) → IsNarrowRate whole places units r
    at (inl here) = subst (λ (x : Rate). IsNarrowRate whole places units x) (sym here.1) near
    at (inr there) = all e r there.1

sharp_set : (whole places event : ℕ) (list : List Rate) (rate : Rate) → event < length list → IsSharpRate whole places rate → AreSharpRates whole places list → AreSharpRates whole places (slice_set list event rate)
sharp_set whole places event list rate inside near all e r found = at (at_set list event e rate r inside found)
  where
    at : ((e ≡ event) × (r ≡ rate)) ⊎ ((e ≡ event → ⊥) × (slice_get list e ≡ Some r)) → IsSharpRate whole places r
    at (inl here) = subst (λ (x : Rate). IsSharpRate whole places x) (sym here.1) near
    at (inr there) = all e r there.1

-- no event occurs more often than always
pub rates_parted : (whole places : ℕ) (list : List Rate) → AreSharpRates whole places list → AreParted (10 ^ whole) (rates_of whole list)
rates_parted whole places list all = record { low = λ e. low (slice_get list e) (all e); high = λ e. high (slice_get list e) (all e) }
  where
    low : (found : Option Rate) → ((rate : Rate) → found ≡ Some rate → IsSharpRate whole places rate) → low_of found ≤ 10 ^ whole
    low None each = omega arith
    low (Some rate) each = let r = each rate refl in omega (arith, r.least)

    high : (found : Option Rate) → ((rate : Rate) → found ≡ Some rate → IsSharpRate whole places rate) → high_of whole found ≤ 10 ^ whole
    high None each = omega arith
    high (Some rate) each = (each rate refl).most

certain_parted : (s k event : ℕ) (rates : Rates) → k ≤ s → AreParted s rates → AreParted s (certain s k event rates)
certain_parted s k event rates few parted = record { low = λ e. at (e == event) (rates.low e) (parted.low e); high = λ e. at (e == event) (rates.high e) (parted.high e) }
  where
    at : (b : Bool) (x : ℕ) → x ≤ s → (if b then k else x) ≤ s
    at true x h = few
    at false x h = h

-- bounds with another rate are bounds where the event is certain
pub certain_bounds : (whole k event : ℕ) (list : List Rate) (rate : Rate) (family : Family) (bounds : Bounds) → event < length list → k ≤ 10 ^ whole → FitWhole whole list
    → IsCertain whole k rate → ((places units : ℕ) → IsNarrowRate whole places units rate) → ((places : ℕ) → IsSharpRate whole places rate) → IsBounded whole (slice_set list event rate) family bounds → AreCertainBounds whole k list event family bounds
certain_bounds whole k event list rate family bounds inside few fit is near keen bounded =
    let same = length-set list event rate in
    record {
      right = subst (λ (n : ℕ). AreBoundsOf whole (certain (10 ^ whole) k event (rates_of whole list)) n family bounds) same
          (bounded.all (certain (10 ^ whole) k event (rates_of whole list)) (certain_right (10 ^ whole) k event (rates_of whole list) few (rates_right whole list fit)) (certain_rated whole k event list rate inside is));
      sharp = λ places all room.
          subst (λ (n : ℕ). AreSharp whole places (certain (10 ^ whole) k event (rates_of whole list)) n family bounds) same
          (bounded.sharp (certain (10 ^ whole) k event (rates_of whole list)) places (certain_parted (10 ^ whole) k event (rates_of whole list) few (rates_parted whole places list all)) (certain_rated whole k event list rate inside is)
          (sharp_set whole places event list rate inside (keen places) all) (subst (λ (n : ℕ). places * n ≤ whole) (sym same) room));
      narrow = λ places units all room.
          subst (λ (n : ℕ). AreNarrow whole places units (n - least_number family) bounds) same
          (bounded.narrow places units (narrow_set whole places units event list rate inside (near places units) all) (subst (λ (n : ℕ). places * n ≤ whole) (sym same) room));
    }

pub certain_found : (whole k event : ℕ) (list : List Rate) (rate : Rate) (family : Family) (result : Result (Option Bounds) AllocError) → event < length list → k ≤ 10 ^ whole → FitWhole whole list
    → IsCertain whole k rate → ((places units : ℕ) → IsNarrowRate whole places units rate) → ((places : ℕ) → IsSharpRate whole places rate) → IfOk result (λ found. IfSome found (IsBounded whole (slice_set list event rate) family))
    → IfOk result (λ found. IfSome found (AreCertainBounds whole k list event family))
certain_found whole k event list rate family (Err none) inside few fit is near keen right = right
certain_found whole k event list rate family (Ok None) inside few fit is near keen right = right
certain_found whole k event list rate family (Ok (Some bounds)) inside few fit is near keen right = certain_bounds whole k event list rate family bounds inside few fit is near keen right
