-- The bounds of the families of a store, as it grows.
use Rattle.std.proofs.Common.{◌≡◌, ℕ, ◌+◌, ◌-◌, ◌*◌, ◌^◌, ◌<◌, ◌≤◌, Bool, true, false, ◌&&◌, ◌||◌, List, [], ◌∷◌, length, Option, None, Some, Result, Ok, Err, refl, sym, ap, ◌∙◌, subst, arith}
use Rattle.std.specs.Prelude.{slice_get, IfSome, IfOk}
use Rattle.std.specs.declared.alloc.AllocError.{AllocError}
use Rattle.zdd_store.specs.inner.Family.{Family, least_of, least_number, has, covers}
use Rattle.zdd_store.specs.inner.Store.{Families, IsIn, family_of, family_with, Fits, Keeps}
use Rattle.zdd_store.specs.inner.Answers.{IsLeastFamily}
use Rattle.zdd_store.specs.declared.id.Id.{Id}
use Rattle.zdd_store.specs.declared.id.Node.{Node}
use Rattle.zdd_families.specs.inner.Steps.{either}
use Rattle.zdd_families.proofs.Booleans.{or_left}
use Rattle.zdd_families.proofs.Covers.{covers-branch}
use Rattle.zdd_families.proofs.Above.{above, covers-above, least-bound, least_number-most}
use Rattle.zdd_families.proofs.Pairs.{found_kept}
use Rattle.probabilities.specs.Rates.{Rates}
use Rattle.probabilities.specs.inner.Rates.{AreRates}
use Rattle.probabilities.specs.inner.Bounded.{AreParts}
use Rattle.probabilities.specs.Decided.{FitsWhole, rates_of, low_of, high_of, low_not_of, high_not_of}
use Rattle.probabilities.specs.inner.Decided.{AreBoundsOf, AreEnds, IsStep, AreRated, FitWhole}
use Rattle.probabilities.specs.Widths.{AreNarrow, IsNarrowRate}
use Rattle.probabilities.specs.inner.Widths.{IsNarrowed}
use Rattle.probabilities.specs.inner.Remembered.{IsBounded, IsBoundedAt, KnowsBounds}
use Rattle.probabilities.specs.inner.Sharp.{IsSharp, IsSharpStep}
use Rattle.probabilities.proofs.Sharpening.{node_sharp}
use Rattle.decimals.specs.Decimals.{parts}
use Rattle.std.proofs.Math.Nat.{mul-le-mul_left}
use Rattle.decimals.proofs.Nearness.{near_more, more_places}
use Rattle.probabilities.specs.declared.rates.Bounds.{Bounds}
use Rattle.probabilities.specs.declared.rates.Rate.{Rate}

-- bounds stay bounds
pub at_kept : (whole : ℕ) (list : List Rate) (before after : Families) (id : Id) (bounds : Bounds) → Keeps before after → IsBoundedAt whole list before id bounds → IsBoundedAt whole list after id bounds
at_kept whole list before after id bounds kept at =
    record { found = found_kept before after id kept at.found; right = subst (λ f. IsBounded whole list f bounds) (sym (kept.same id.position at.found)) at.right }

pub knows_kept : (whole : ℕ) (list : List Rate) (before after : Families) (known : Id → Option Bounds) → Keeps before after → KnowsBounds whole list before known → KnowsBounds whole list after known
knows_kept whole list before after known kept right = λ id bounds e. at_kept whole list before after id bounds kept (right id bounds e)

pub bounded_before : (whole : ℕ) (list : List Rate) (before after : Families) (id : Id) (bounds : Bounds) → Keeps before after → IsIn before id → IsBounded whole list (family_of after id) bounds → IsBounded whole list (family_of before id) bounds
bounded_before whole list before after id bounds kept here right = subst (λ f. IsBounded whole list f bounds) (kept.same id.position here) right

parts_bits : (h l r : Bool) → (l || (h && r)) ≡ (l || (h && (l || r)))
parts_bits h true r = refl
parts_bits h false r = refl

-- what the family of a node covers with its variable is the union of the families below it
pub node_parts : (before after : Families) (id with : Id) (node : Node) → Fits before node → family_of before id ≡ family_with before node
    → IsLeastFamily (either (family_of before node.lo) (family_of before node.hi)) (family_of after with) → AreParts (family_of before id) node.var (family_of before node.lo) (family_of after with)
node_parts before after id with node fits is least =
    let lo = family_of before node.lo in
    let hi = family_of before node.hi in
    let low : node.var + 1 ≤ least_number lo = omega (arith, fits.lo_greater) in
    let high : node.var + 1 ≤ least_number hi = omega (arith, fits.hi_greater) in
    let most : node.var + 1 ≤ 4294967296 = omega (arith, least_number-most lo) in
    let bound = least-bound (node.var + 1) (either lo hi) (family_of after with) most
    (λ set. ap (λ t. t || covers hi (above (node.var + 1) set)) (covers-above (node.var + 1) lo set low) ∙ ap (λ t. covers lo set || t) (covers-above (node.var + 1) hi set high)) least in
    record {
      lo_greater = fits.lo_greater;
      hi_greater = omega (arith, bound);
      covering = λ set.
          ap (λ f. covers f set) is ∙ covers-branch node.var lo hi set ∙ parts_bits (has set node.var) (covers lo set) (covers hi set)
          ∙ ap (λ c. covers lo set || (has set node.var && c)) (sym (least.covering set));
      rises = λ set h. least.covering set ∙ or_left (covers lo set) (covers hi set) h;
    }

-- it begins after the variable, also in a store that grew
pub node_above : (before after later : Families) (id with : Id) (node : Node) → Fits before node → family_of before id ≡ family_with before node
    → IsLeastFamily (either (family_of before node.lo) (family_of before node.hi)) (family_of after with) → Keeps after later → IsIn after with → node.var < least_number (family_of later with)
node_above before after later id with node fits is least kept here =
    subst (λ f. node.var < least_number f) (sym (kept.same with.position here)) (node_parts before after id with node fits is least).hi_greater

-- narrow bounds are narrow over more events
widen : (whole places units n m : ℕ) (bounds : Bounds) → n ≤ m → AreNarrow whole places units n bounds → AreNarrow whole places units m bounds
widen whole places units n m bounds le narrow =
    let more : places * n ≤ places * m = mul-le-mul_left places le in
    record {
      within = narrow.within;
      lower_places = more_places whole (places * n) (places * m) bounds.lower.mantissa bounds.lower.exponent more narrow.lower_places;
      upper_places = more_places whole (places * n) (places * m) bounds.upper.mantissa bounds.upper.exponent more narrow.upper_places;
      near = near_more ((4 + units) * n) ((4 + units) * m) (parts bounds.upper) (parts bounds.lower) (mul-le-mul_left (4 + units) le) narrow.near;
    }

-- the bounds that are made of narrow ones of the parts
made_narrow : (whole : ℕ) (list : List Rate) (family low high : Family) (event : ℕ) (rate : Rate) (lo hi result : Bounds) → slice_get list event ≡ Some rate → event < length list
    → least_number family ≡ event → event < least_number low → event < least_number high → IsNarrowed whole list low lo → IsNarrowed whole list high hi
    → ((places units count : ℕ) → IsNarrowRate whole places units rate → AreNarrow whole places units count lo → AreNarrow whole places units count hi → places + places * count ≤ whole → AreNarrow whole places units (count + 1) result)
    → IsNarrowed whole list family result
made_narrow whole list family low high event rate lo hi result rated inside top low_greater high_greater first second step places units narrow fit =
    let count = length list - (event + 1) in
    let all : places * (count + 1) ≤ places * length list = mul-le-mul_left places (omega arith) in
    let same : count + 1 ≡ length list - least_number family = omega arith in
    let made = step places units count (narrow event rate rated)
    (widen whole places units (length list - least_number low) count lo (omega arith) (first places units narrow fit))
    (widen whole places units (length list - least_number high) count hi (omega arith) (second places units narrow fit)) (omega arith) in
    subst (λ k. AreNarrow whole places units k result) same made

-- the bounds that are made of those of the parts
pub node_bounded : (whole : ℕ) (list : List Rate) (s0 s1 s2 s3 : Families) (id with : Id) (node : Node) (rate : Rate) (lo hi result : Bounds)
    → IsIn s0 id → Fits s0 node → family_of s0 id ≡ family_with s0 node → least_number (family_of s0 id) ≡ node.var → Keeps s0 s1 → Keeps s1 s2 → Keeps s0 s3
    → slice_get list node.var ≡ Some rate → node.var < length list
    → IsIn s1 with → IsLeastFamily (either (family_of s0 node.lo) (family_of s0 node.hi)) (family_of s1 with)
    → IsBounded whole list (family_of s1 node.lo) lo → IsBounded whole list (family_of s2 with) hi
    → ((rates : Rates) (end event : ℕ) (family low high : Family) → IsStep whole rate lo hi rates end event family low high → AreBoundsOf whole rates end family result)
    → ((places units count : ℕ) → IsNarrowRate whole places units rate → AreNarrow whole places units count lo → AreNarrow whole places units count hi → places + places * count ≤ whole → AreNarrow whole places units (count + 1) result)
    → IsSharpStep whole rate lo hi result → IsBoundedAt whole list s3 id result
node_bounded whole list s0 s1 s2 s3 id with node rate lo hi result here fits is top k1 k2 k3 rated inside with_in least low high step narrow sharp =
    let first = bounded_before whole list s0 s1 node.lo lo k1 fits.lo_in low in
    let second = bounded_before whole list s1 s2 with hi k2 with_in high in
    let are = node_parts s0 s1 id with node fits is least in
    record {
      found = found_kept s0 s3 id k3 here;
      right = subst (λ f. IsBounded whole list f result) (sym (k3.same id.position here))
          record {
            all = λ rates right all. step rates (length list) node.var (family_of s0 id) (family_of s0 node.lo) (family_of s1 with)
                record {
                  right = right;
                  rated = all node.var rate rated;
                  inside = inside;
                  top = top;
                  parts = are;
                  lo_bounds = first.all rates right all;
                  hi_bounds = second.all rates right all;
                };
            narrow = made_narrow whole list (family_of s0 id) (family_of s0 node.lo) (family_of s1 with) node.var rate lo hi result rated inside top are.lo_greater are.hi_greater first.narrow second.narrow narrow;
            sharp = node_sharp whole list (family_of s0 id) (family_of s0 node.lo) (family_of s1 with) node.var rate lo hi result rated inside top are first.sharp second.sharp sharp;
          };
    }

-- a list of rates that fit says what fits
pub rates_right : (whole : ℕ) (list : List Rate) → FitWhole whole list → AreRates (10 ^ whole) (rates_of whole list)
rates_right whole list fit = record { least = λ e. low (slice_get list e) (fit e); most = λ e. high (slice_get list e) (fit e) }
  where
    low : (found : Option Rate) → ((rate : Rate) → found ≡ Some rate → FitsWhole whole rate) → low_not_of found + low_of found ≤ 10 ^ whole
    low None each = omega arith
    low (Some rate) each = (each rate refl).least

    high : (found : Option Rate) → ((rate : Rate) → found ≡ Some rate → FitsWhole whole rate) → 10 ^ whole ≤ high_not_of whole found + high_of whole found
    high None each = omega arith
    high (Some rate) each = (each rate refl).most

pub rates_rated : (whole : ℕ) (list : List Rate) → AreRated list (rates_of whole list)
rates_rated whole list event rate is =
    record { low = ap low_of is; high = ap (high_of whole) is; low_not = ap low_not_of is; high_not = ap (high_not_of whole) is }

-- so bounds for all that have the rates of the list are bounds for what it says
pub bounded_list : (whole : ℕ) (list : List Rate) (family : Family) (result : Result (Option Bounds) AllocError) → FitWhole whole list → IfOk result (λ found. IfSome found (IsBounded whole list family))
    → IfOk result (λ found. IfSome found (AreBoundsOf whole (rates_of whole list) (length list) family))
bounded_list whole list family (Err none) fit right = right
bounded_list whole list family (Ok None) fit right = right
bounded_list whole list family (Ok (Some bounds)) fit right = right.all (rates_of whole list) (rates_right whole list fit) (rates_rated whole list)

pub narrow_list : (whole : ℕ) (list : List Rate) (family : Family) (result : Result (Option Bounds) AllocError) → IfOk result (λ found. IfSome found (IsBounded whole list family))
    → IfOk result (λ found. IfSome found (IsNarrowed whole list family))
narrow_list whole list family (Err none) right = right
narrow_list whole list family (Ok None) right = right
narrow_list whole list family (Ok (Some bounds)) right = right.narrow

pub sharp_list : (whole : ℕ) (list : List Rate) (family : Family) (result : Result (Option Bounds) AllocError) → IfOk result (λ found. IfSome found (IsBounded whole list family))
    → IfOk result (λ found. IfSome found (IsSharp whole list family))
sharp_list whole list family (Err none) right = right
sharp_list whole list family (Ok None) right = right
sharp_list whole list family (Ok (Some bounds)) right = right.sharp

-- ---- the ends

-- a family is not both without a set and that of the empty set
pub not_both : (family : Family) → family ≡ [] → family ≡ [] ∷ [] → ⊥
not_both family none full = apart (sym none ∙ full)
  where
    apart : ◌≡◌ {A = Family} [] ([] ∷ []) → ⊥
    apart same = absurd (cc (same))

-- a family with a number is no end
pub no_end : (whole var : ℕ) (family : Family) (bounds : Bounds) → least_number family ≡ var → var < 4294967296 → AreEnds whole family bounds
unfolding least_number least_of
no_end whole var family bounds least few =
    record {
      none = λ is. absurd (above (sym (ap least_number is) ∙ least));
      full = λ is. absurd (above (sym (ap least_number is) ∙ least));
    }
  where
    above : 4294967296 ≡ var → ⊥
    above same = absurd (omega (arith, few))

pub no_ends : (whole var : ℕ) (family : Family) (result : Result (Option Bounds) AllocError) → least_number family ≡ var → var < 4294967296 → IfOk result (λ found. IfSome found (AreEnds whole family))
no_ends whole var family (Ok (Some bounds)) least few = no_end whole var family bounds least few
no_ends whole var family (Ok None) least few = tt
no_ends whole var family (Err none) least few = tt
