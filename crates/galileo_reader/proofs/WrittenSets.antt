-- The minimal cut sets of the tree that is read of a written text are those of the target, each as its places among the events of the
-- tree, in the same order.
use Rattle.std.proofs.Common.{ℕ, zero, suc, ◌+◌, ◌≡◌, ◌<◌, ◌≤◌, Bool, true, false, not, cond, ◌&&◌, List, [], ◌∷◌, map, length, filter, Some, None, Option, Contains, unwrap_or, inl, inr, ⊎_elim, ap, ◌∙◌, sym, subst, refl, arith}
use Rattle.std.specs.List.{AllByRecursion, list_any, range_with_len}
use Rattle.std.specs.Option.{option_map}
use lib.ListN.{length-map}
use Rattle.std.proofs.lemmas.Bool.{and_from, and_parts, cases_order, eq-eqb, false≢true, ne_eqb}
use Rattle.std.proofs.lemmas.Option.{slice_get-map, slice_get_within}
use Rattle.plain_values.specs.Rising.{RisesWithin}
use Rattle.fault_system.specs.CutSets.{IsCutSet, IsEventSet, IsMinimalCutSet, IsSubset}
use Rattle.fault_system.specs.Listings.{IsBefore, IsInListingOrder, IsListing, IsWithinOrder}
use Rattle.fault_system.specs.Systems.{Holds, IsSystem, System, event_name}
use Rattle.fault_system.specs.Truth.{Has, NumberSet, set_of}
use Rattle.fault_system.specs.declared.formula.EventInfo.{EventInfo}
use Rattle.fault_system.proofs.Elements.{In, In-contains, In-map, In-mapped, contains_In, each-made}
use Rattle.fault_system.proofs.NumberSets.{RisesWithin-at, RisesWithin-filter, same_rising, set_of-cases, set_of-contained, set_of-filter, set_of-first, set_of-rest, contained-in_set}
use Rattle.fault_system.proofs.Orders.{Lower, before_cases, before_made}
use Rattle.property_reader.specs.declared.rate.Rate.{Rate}
use Rattle.round_gates.specs.declared.tree.Tree.{Tree}
use Rattle.round_gates.specs.Targets.{IsTreeFor}
use Rattle.round_gates.specs.inner.Targets.{IsWellMade}
use Rattle.round_gates.specs.Trees.{is_event}
use Rattle.round_gates.proofs.MadeWell.{made-well}
use Rattle.round_gates.proofs.TreeTruth.{tree-truth}
use Rattle.galileo_writer.specs.inner.TreeText.{HasTextNames}
use Rattle.galileo_writer.proofs.Names.{item-there}
use Rattle.galileo_reader.specs.TreeSystems.{event_info, system_of}
use Rattle.galileo_reader.specs.inner.Written.{event_at, event_place, events_at, named_event, named_tree}
use Rattle.galileo_reader.proofs.WrittenTrees.{event-placed}
use Rattle.galileo_reader.proofs.WrittenTruth.{got, holds-again, placed-again}

-- ---- rising numbers by their places

at-least : (low high : ℕ) (xs : List ℕ) (i : ℕ) → RisesWithin low high xs → i < length xs → low ≤ event_at xs i
at-least low high [] i rises fits = absurd (omega (arith, fits))
at-least low high (x ∷ xs) zero rises fits = rises.0
at-least low high (x ∷ xs) (suc i) rises fits = let above : x + 1 ≤ event_at xs i = at-least (x + 1) high xs i rises.2 (omega (arith, fits)) in omega (arith, rises.0, above)

at-most : (low high : ℕ) (xs : List ℕ) (i : ℕ) → RisesWithin low high xs → i < length xs → event_at xs i < high
at-most low high [] i rises fits = absurd (omega (arith, fits))
at-most low high (x ∷ xs) zero rises fits = rises.1
at-most low high (x ∷ xs) (suc i) rises fits = at-most (x + 1) high xs i rises.2 (omega (arith, fits))

at-rise : (low high : ℕ) (xs : List ℕ) (i j : ℕ) → RisesWithin low high xs → i < j → j < length xs → event_at xs i < event_at xs j
at-rise low high [] i j rises less fits = absurd (omega (arith, fits))
at-rise low high (x ∷ xs) i zero rises less fits = absurd (omega (arith, less))
at-rise low high (x ∷ xs) zero (suc j) rises less fits = let above : x + 1 ≤ event_at xs j = at-least (x + 1) high xs j rises.2 (omega (arith, fits)) in omega (arith, above)
at-rise low high (x ∷ xs) (suc i) (suc j) rises less fits = at-rise (x + 1) high xs i j rises.2 (omega (arith, less)) (omega (arith, fits))

-- the place of what stands at a place
place-again : (low high : ℕ) (xs : List ℕ) (i : ℕ) → RisesWithin low high xs → i < length xs → event_place xs (event_at xs i) ≡ i
place-again low high [] i rises fits = absurd (omega (arith, fits))
place-again low high (x ∷ xs) zero rises fits = ap (λ b. cond (not b) (1 + event_place xs x) 0) (eq-eqb x x refl)
place-again low high (x ∷ xs) (suc i) rises fits =
    let above : x + 1 ≤ event_at xs i = at-least (x + 1) high xs i rises.2 (omega (arith, fits)) in
    let rest : event_place xs (event_at xs i) ≡ i = place-again (x + 1) high xs i rises.2 (omega (arith, fits)) in
    let next : 1 + event_place xs (event_at xs i) ≡ suc i = omega (arith, rest) in
    ap (λ b. cond (not b) (1 + event_place xs (event_at xs i)) 0) (ne_eqb x (event_at xs i) (λ same. omega (arith, same, above))) ∙ next

range-rises : (low count : ℕ) → RisesWithin low (low + count) (range_with_len low count)
range-rises low zero = tt
range-rises low (suc count) =
    let next : low + 1 + count ≡ low + suc count = omega arith in
    (omega arith, omega arith, subst (λ high. RisesWithin (low + 1) high (range_with_len (low + 1) count)) next (range-rises (low + 1) count))

from-zero : (count : ℕ) → RisesWithin 0 count (range_with_len 0 count)
from-zero count = let sum : 0 + count ≡ count = omega arith in subst (λ high. RisesWithin 0 high (range_with_len 0 count)) sum (range-rises 0 count)

range-has : (low count n : ℕ) → low ≤ n → n < low + count → Has (set_of (range_with_len low count)) n
range-has low zero n l h = absurd (omega (arith, l, h))
range-has low (suc count) n l h =
    ⊎_elim (λ same. subst (λ m. Has (set_of (low ∷ range_with_len (low + 1) count)) m) same (set_of-first low (range_with_len (low + 1) count)))
    (λ apart. ⊎_elim (λ less. set_of-rest low (range_with_len (low + 1) count) n (range-has (low + 1) count n (omega (arith, less)) (omega (arith, h)))) (λ more. absurd (omega (arith, more, l))) apart)
    (cases_order low n)

same-bool : (a b : Bool) → (a ≡ true → b ≡ true) → (b ≡ true → a ≡ true) → a ≡ b
same-bool true b to from = sym (to refl)
same-bool false true to from = from refl
same-bool false false to from = refl

-- ---- sets of places of events, and sets of these events

module _ (events : List ℕ) (count : ℕ) (rise : RisesWithin 0 count events) where
  -- a rising list of places
  abbrev ArePlaces : List ℕ → Type 0
  ArePlaces set = RisesWithin 0 (length events) set

  has-mapped : (set : List ℕ) (i : ℕ) → Has (set_of set) i → Has (set_of (events_at events set)) (event_at events i)
  has-mapped [] i h = absurd (false≢true h)
  has-mapped (x ∷ set) i h =
      ⊎_elim (λ same. subst (λ n. Has (set_of (events_at events (x ∷ set))) (event_at events n)) same (set_of-first (event_at events x) (events_at events set)))
      (λ later. set_of-rest (event_at events x) (events_at events set) (event_at events i) (has-mapped set i later)) (set_of-cases x set i h)

  mapped-has : (set : List ℕ) (n : ℕ) → Has (set_of (events_at events set)) n → (i : ℕ) × Has (set_of set) i × (event_at events i ≡ n)
  mapped-has [] n h = absurd (false≢true h)
  mapped-has (x ∷ set) n h =
      ⊎_elim (λ same. (x, set_of-first x set, same)) (λ later. let (i, has, at) = mapped-has set n later in (i, set_of-rest x set i has, at)) (set_of-cases (event_at events x) (events_at events set) n h)

  place-fits : (n : ℕ) → In n events → event_place events n < length events
  place-fits n i = slice_get_within events (event_place events n) n (event-placed events n i)

  at-place : (n : ℕ) → In n events → event_at events (event_place events n) ≡ n
  at-place n i = got events (event_place events n) n 0 (event-placed events n i)

  has-place : (set : List ℕ) (n : ℕ) → ArePlaces set → Has (set_of (events_at events set)) n → Has (set_of set) (event_place events n)
  has-place set n places h =
      let (i, has, at) = mapped-has set n h in
      let fits = (RisesWithin-at 0 (length events) set i places has).1 in
      subst (λ k. Has (set_of set) k) (sym (ap (event_place events) (sym at) ∙ place-again 0 count events i rise fits)) has

  -- an event is in the set of events exactly where its place is in the set of places
  agree-sets : (set : List ℕ) → ArePlaces set → (n : ℕ) → In n events → set_of set (event_place events n) ≡ set_of (events_at events set) n
  agree-sets set places n i =
      same-bool (set_of set (event_place events n)) (set_of (events_at events set) n)
      (λ h. subst (λ k. Has (set_of (events_at events set)) k) (at-place n i) (has-mapped set (event_place events n) h))
      (λ h. has-place set n places h)

  mapped-rises : (low floor : ℕ) (set : List ℕ) → RisesWithin low (length events) set → ((i : ℕ) → low ≤ i → i < length events → floor ≤ event_at events i) → RisesWithin floor count (events_at events set)
  mapped-rises low floor [] rises above = tt
  mapped-rises low floor (x ∷ set) rises above = (
    above x rises.0 rises.1,
    at-most 0 count events x rise rises.1,
    mapped-rises (x + 1) (event_at events x + 1) set rises.2 (λ i from fits. let more : event_at events x < event_at events i = at-rise 0 count events x i rise (omega (arith, from)) fits in omega (arith, more)),
  )

  events-rise : (set : List ℕ) → ArePlaces set → RisesWithin 0 count (events_at events set)
  events-rise set places = mapped-rises 0 0 set places (λ i from fits. omega arith)

  -- a set of these events has its places
  image : (set : List ℕ) → RisesWithin 0 count set → ((n : ℕ) → Has (set_of set) n → In n events) → (places : List ℕ) × ArePlaces places × (events_at events places ≡ set)
  image set rises part = (
    here,
    rising,
    same_rising 0 0 count (events_at events here) set (events-rise here rising) rises
        (λ n h.
        let (i, has, at) = mapped-has here n h in
        subst (λ k. Has (set_of set) k) at (and_parts _ _ (sym (set_of-filter kept (range_with_len 0 (length events)) i) ∙ has)).1)
        (λ n h.
        let inside = part n h in
        let fits = place-fits n inside in
        let has : Has (set_of here) (event_place events n)
        = set_of-filter kept (range_with_len 0 (length events)) (event_place events n) ∙ and_from _ _ (range-has 0 (length events) (event_place events n) (omega arith) (omega (arith, fits))) (ap (set_of set) (at-place n inside) ∙ h) in
        subst (λ k. Has (set_of (events_at events here)) k) (at-place n inside) (has-mapped here (event_place events n) has)),
  )
    where
      kept : ℕ → Bool
      kept i = set_of set (event_at events i)

      here : List ℕ
      here = filter kept (range_with_len 0 (length events))

      rising : ArePlaces here
      rising = RisesWithin-filter kept 0 (length events) (range_with_len 0 (length events)) (from-zero (length events))

  subset-to : (part whole : List ℕ) → IsSubset part whole → IsSubset (events_at events part) (events_at events whole)
  subset-to part whole within n h =
      let (i, has, at) = mapped-has part n h in subst (λ k. Has (set_of (events_at events whole)) k) at (has-mapped whole i (within i has))

  subset-from : (part whole : List ℕ) → ArePlaces part → ArePlaces whole → IsSubset (events_at events part) (events_at events whole) → IsSubset part whole
  subset-from part whole places more within i h =
      let fits = (RisesWithin-at 0 (length events) part i places h).1 in
      subst (λ k. Has (set_of whole) k) (place-again 0 count events i rise fits) (has-place whole (event_at events i) more (within (event_at events i) (has-mapped part i h)))

  same-places : (a b : List ℕ) → ArePlaces a → ArePlaces b → events_at events a ≡ events_at events b → a ≡ b
  same-places a b places more same =
      same_rising 0 0 (length events) a b places more
      (subset-from a b places more (λ n h. subst (λ s. Has (set_of s) n) same h)) (subset-from b a more places (λ n h. subst (λ s. Has (set_of s) n) (sym same) h))

  -- ---- the order

  lower-mapped : (low floor : ℕ) (a b : List ℕ) → RisesWithin low (length events) a → RisesWithin floor (length events) b → Lower a b → Lower (events_at events a) (events_at events b)
  lower-mapped low floor [] b r s h = absurd h
  lower-mapped low floor (x ∷ a) [] r s h = absurd h
  lower-mapped low floor (x ∷ a) (y ∷ b) r s h =
      ⊎_elim (λ less. inl (at-rise 0 count events x y rise less s.1)) (λ same. inr (ap (event_at events) same.0, lower-mapped (x + 1) (y + 1) a b r.2 s.2 same.1)) h

  before-mapped : (a b : List ℕ) → ArePlaces a → ArePlaces b → IsBefore a b → IsBefore (events_at events a) (events_at events b)
  before-mapped a b r s h =
      let long_a : length (events_at events a) ≡ length a = length-map a (event_at events) in
      let long_b : length (events_at events b) ≡ length b = length-map b (event_at events) in
      before_made (events_at events a) (events_at events b)
      (⊎_elim (λ less. inl (omega (arith, less, long_a, long_b))) (λ same. inr (long_a ∙ same.0 ∙ sym long_b, lower-mapped 0 0 a b r s same.1)) (before_cases a b h))

  each-mapped : (a : List ℕ) (sets : List (List ℕ)) → ArePlaces a → AllByRecursion ArePlaces sets → AllByRecursion (IsBefore a) sets → AllByRecursion (IsBefore (events_at events a)) (map (events_at events) sets)
  each-mapped a [] r all h = tt
  each-mapped a (b ∷ sets) r all h = (before-mapped a b r all.0 h.0, each-mapped a sets r all.1 h.1)

  order-mapped : (sets : List (List ℕ)) → AllByRecursion ArePlaces sets → IsInListingOrder sets → IsInListingOrder (map (events_at events) sets)
  order-mapped [] all h = tt
  order-mapped (a ∷ sets) all h = (each-mapped a sets all.0 all.1 h.0, order-mapped sets all.1 h.1)

-- ---- the tree of a target

module _ (system : System) (is_system : IsSystem system) (names : HasTextNames system) (target : ℕ) (tree : Tree) (is : IsTreeFor system target tree) (rates : List Rate) where
  abbrev system_read : System
  system_read = system_of (named_tree system tree rates)

  made : IsWellMade system tree
  made = made-well system target tree is_system is

  rise : RisesWithin 0 (length system.events) tree.events
  rise = subst (RisesWithin 0 (length system.events)) (sym made.events)
      (RisesWithin-filter (λ n. list_any (λ gate. list_any (is_event n) gate.inputs) tree.gates) 0 (length system.events) (range_with_len 0 (length system.events)) (from-zero (length system.events)))

  abbrev Places : List ℕ → Type 0
  Places set = RisesWithin 0 (length tree.events) set

  abbrev events_of : List ℕ → List ℕ
  events_of set = events_at tree.events set

  events-long : length system_read.events ≡ length tree.events
  events-long = length-map (map (named_event system rates) tree.events) event_info ∙ length-map tree.events (named_event system rates)

  places-are : (set : List ℕ) → IsEventSet system_read set → Places set
  places-are set is_set = subst (λ n. RisesWithin 0 n set) events-long is_set

  are-places : (set : List ℕ) → Places set → IsEventSet system_read set
  are-places set places = subst (λ n. RisesWithin 0 n set) (sym events-long) places

  -- the name of an event at a place
  pub name-again : (place : ℕ) → place < length tree.events → event_name system_read place ≡ event_name system (event_at tree.events place)
  name-again place fits =
      let (event, at) = item-there tree.events place fits in
      let info = slice_get-map event_info (map (named_event system rates) tree.events) place in
      let named = slice_get-map (named_event system rates) tree.events place in
      ap (λ o. unwrap_or (option_map (λ (e : EventInfo). e.name) o) []) (info ∙ ap (option_map event_info) (named ∙ ap (option_map (named_event system rates)) at))
      ∙ ap (event_name system) (sym (got tree.events place event 0 at))

  holds-to : (es given : NumberSet) → ((n : ℕ) → In n tree.events → es (event_place tree.events n) ≡ given n) → Holds system_read es tree.top → Holds system given target
  holds-to es given agree holds = (tree-truth system target tree given is_system is).0 ((holds-again system is_system names tree made rates es given agree).0 holds)

  holds-from : (es given : NumberSet) → ((n : ℕ) → In n tree.events → es (event_place tree.events n) ≡ given n) → Holds system given target → Holds system_read es tree.top
  holds-from es given agree holds = (holds-again system is_system names tree made rates es given agree).1 ((tree-truth system target tree given is_system is).1 holds)

  cut-to : (set : List ℕ) → IsCutSet system_read tree.top set → IsCutSet system target (events_of set)
  cut-to set (rises, holds) =
      let places = places-are set rises in
      (events-rise tree.events (length system.events) rise set places, holds-to (set_of set) (set_of (events_of set)) (agree-sets tree.events (length system.events) rise set places) holds)

  cut-from : (set : List ℕ) → Places set → IsCutSet system target (events_of set) → IsCutSet system_read tree.top set
  cut-from set places (rises, holds) = (are-places set places, holds-from (set_of set) (set_of (events_of set)) (agree-sets tree.events (length system.events) rise set places) holds)

  -- a minimal cut set has events of the tree alone
  minimal-within : (cut : List ℕ) → IsMinimalCutSet system target cut → (n : ℕ) → Has (set_of cut) n → In n tree.events
  minimal-within cut (is_cut, least) n has =
      In-contains n tree.events (set_of-contained tree.events n (and_parts _ _ (sym (set_of-filter (set_of tree.events) cut n) ∙ subst (λ s. Has (set_of s) n) (sym same) has)).1)
    where
      part : List ℕ
      part = filter (set_of tree.events) cut

      and-own : (a b : Bool) → b ≡ true → a ≡ a && b
      and-own true b e = sym e
      and-own false b e = refl

      agree : (k : ℕ) → In k tree.events → set_of cut (event_at tree.events (event_place tree.events k)) ≡ set_of part k
      agree k i = placed-again system is_system names tree made rates (set_of cut) k i
          ∙ and-own (set_of cut k) (set_of tree.events k) (contained-in_set tree.events k (contains_In k tree.events i)) ∙ sym (set_of-filter (set_of tree.events) cut k)

      at : NumberSet
      at place = set_of cut (event_at tree.events place)

      same : part ≡ cut
      same = least part
          (RisesWithin-filter (set_of tree.events) 0 (length system.events) cut is_cut.0, holds-to at (set_of part) agree (holds-from at (set_of cut) (placed-again system is_system names tree made rates (set_of cut)) is_cut.1))
          (λ k h. (and_parts _ _ (sym (set_of-filter (set_of tree.events) cut k) ∙ h)).0)

  minimal-to : (set : List ℕ) → IsMinimalCutSet system_read tree.top set → IsMinimalCutSet system target (events_of set)
  minimal-to set (cut, least) = (
    cut-to set cut,
    λ other is_cut within.
        let count = length system.events in
        let places = places-are set cut.0 in
        let (own, own_places, same) = image tree.events count rise other is_cut.0 (λ n h. let (i, has, at) = mapped-has tree.events count rise set n (within n h) in in-events i (RisesWithin-at 0 (length tree.events) set i places has).1 n at) in
        let own_cut = cut-from own own_places (subst (IsCutSet system target) (sym same) is_cut) in
        let own_within = subset-from tree.events count rise own set own_places places (λ n h. within n (subst (λ s. Has (set_of s) n) same h)) in
        sym same ∙ ap events_of (least own own_cut own_within),
  )
    where
      stands : (xs : List ℕ) (i : ℕ) → i < length xs → In (event_at xs i) xs
      stands [] i fits = absurd (omega (arith, fits))
      stands (x ∷ xs) zero fits = inl refl
      stands (x ∷ xs) (suc i) fits = inr (stands xs i (omega (arith, fits)))

      in-events : (i : ℕ) → i < length tree.events → (n : ℕ) → event_at tree.events i ≡ n → In n tree.events
      in-events i fits n at = subst (λ k. In k tree.events) at (stands tree.events i fits)

  minimal-from : (set : List ℕ) → Places set → IsMinimalCutSet system target (events_of set) → IsMinimalCutSet system_read tree.top set
  minimal-from set places (cut, least) = (
    cut-from set places cut,
    λ other is_cut within.
        let count = length system.events in
        let more = places-are other is_cut.0 in
        same-places tree.events count rise other set more places (least (events_of other) (cut-to other is_cut) (subset-to tree.events count rise other set within)),
  )

  short-to : (most : Option ℕ) (set : List ℕ) → IsWithinOrder most set → IsWithinOrder most (events_of set)
  short-to None set short = tt
  short-to (Some k) set short = subst (λ n. n ≤ k) (sym (length-map set (event_at tree.events))) short

  short-from : (most : Option ℕ) (set : List ℕ) → IsWithinOrder most (events_of set) → IsWithinOrder most set
  short-from None set short = tt
  short-from (Some k) set short = subst (λ n. n ≤ k) (length-map set (event_at tree.events)) short

  -- the sets of the listing of the tree that is read are of places of events of the tree
  pub sets-placed : (most : Option ℕ) (sets : List (List ℕ)) → IsListing system_read tree.top most sets → AllByRecursion Places sets
  sets-placed most sets listing = each-made Places sets (λ set i. places-are set ((listing.exact set).0 (contains_In set sets i)).0.0.0)

  -- the listing of the tree that is read, by the events of the system
  pub listing-again : (most : Option ℕ) (sets : List (List ℕ)) → IsListing system_read tree.top most sets → IsListing system target most (map events_of sets)
  listing-again most sets listing = record {
    exact = λ set. (
      (λ here.
          let (own, inside, same) = In-map events_of set sets (In-contains set (map events_of sets) here) in
          let (minimal, short) = (listing.exact own).0 (contains_In own sets inside) in
          (subst (IsMinimalCutSet system target) same (minimal-to own minimal), subst (IsWithinOrder most) same (short-to most own short))),
      (λ both.
          let (own, places, same) = image tree.events (length system.events) rise set both.0.0.0 (minimal-within set both.0) in
          let minimal = minimal-from own places (subst (IsMinimalCutSet system target) (sym same) both.0) in
          let short = short-from most own (subst (IsWithinOrder most) (sym same) both.1) in
          subst (Contains (map events_of sets)) same (contains_In (events_of own) (map events_of sets) (In-mapped events_of own sets (In-contains own sets ((listing.exact own).1 (minimal, short)))))),
    );
    ordered = order-mapped tree.events (length system.events) rise sets (sets-placed most sets listing) listing.ordered;
  }
