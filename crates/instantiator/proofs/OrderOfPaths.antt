-- The components of a root come in the order of their paths.
use Rattle.std.proofs.Common.{ℕ, zero, suc, ◌+◌, ◌≡◌, ◌≢◌, ◌<◌, true, false, cond, nat_lt, List, [], ◌∷◌, ◌++◌, length, get_or, slice_get, AllPairs, IsTrue, Option, Some, option_and_then, option_map, refl, sym, ap, ◌∙◌, subst, arith}
use Rattle.std.specs.List.{AllByRecursion}
use Rattle.std.specs.Option.{option_map_or}
use Rattle.std.proofs.lemmas.Bool.Decides.{nat_tests}
use Rattle.std.proofs.lemmas.Iterator.Adapters.{position_from-zero}
use Rattle.std.proofs.lemmas.List.{append_assoc, append-nil}
use Rattle.std.proofs.lemmas.List.Elements.{recursion_from_All}
use Rattle.std.proofs.lemmas.Option.{get_or_from_slice_get, slice_get-get_or}
use Rattle.plain_values.specs.Name.{is_same_text}
use Rattle.aadl_syntax.specs.declared.core_model.PackageUnit.{PackageUnit}
use Rattle.package_index.specs.declared.id.ClassifierId.{ClassifierId}
use Rattle.package_index.proofs.KnowsLaws.{find-place}
use Rattle.instantiator.specs.declared.occurrence.Occurrence.{Occurrence}
use Rattle.instantiator.specs.declared.path.Component.{Component}
use Rattle.instantiator.specs.Components.{Part, component_of, components_of, found, occurrence_of, preorder, root_of}
use Rattle.instantiator.specs.inner.Reached.{AreInOrder, comes_before, has_name, is_earlier, part_named, part_place, parts_at}
use Rattle.instantiator.proofs.Apart.{AllPairs-from_Apart, Apart, Apart-from_AllPairs, apart-flat_map, apart-map, apart-weaker, each-weaker}
use Rattle.instantiator.proofs.PathLaws.{Under, all-under, below-each, parts-differ}
use Rattle.instantiator.proofs.ReachedLaws.{flat_map-map, text-is, text-same}
use Rattle.instantiator.proofs.StepLaws.{first-from, not-so}

module _ (packages : List PackageUnit) where
  -- ---- the places of parts

  module _ (classifier : Option ClassifierId) where
    abbrev parts : List Part
    parts = parts_at packages classifier

    differ : AllPairs (λ a b. a.name ≢ b.name) parts
    differ = AllPairs-from_Apart (λ (a b : Part). a.name ≢ b.name) parts (parts-differ packages classifier)

    -- a part is the first of its name
    place-of : (i : ℕ) (d : Part) → i < length parts → part_place packages classifier (get_or parts i d).name ≡ Some i
    place-of i d within =
        let part = get_or parts i d in
        let test = has_name part.name in
        let before : (k : ℕ) → k < i → (other : Part) → slice_get parts k ≡ Some other → test other ≡ false =
        λ k less other at.
        not-so (test other) (λ same. differ k i d less within (ap (λ (p : Part). p.name) (get_or_from_slice_get parts k other d at) ∙ text-is other.name part.name same)) in
        let same : 0 + i ≡ i = omega arith in
        position_from-zero test parts ∙ first-from test parts i 0 part (slice_get-get_or parts i d within) (text-same part.name part.name refl) before ∙ ap Some same

    named : (i : ℕ) (d : Part) → i < length parts → part_named packages classifier (get_or parts i d).name ≡ Some (found (get_or parts i d).classifier)
    named i d within =
        let part = get_or parts i d in
        ap (option_map (λ (p : Part). found p.classifier))
        (find-place (has_name part.name) parts ∙ ap (option_and_then (slice_get parts)) (place-of i d within) ∙ slice_get-get_or parts i d within)

    abbrev Named : Part → Type 0
    Named part = part_named packages classifier part.name ≡ Some (found part.classifier)

    all-named : AllByRecursion Named parts
    all-named = recursion_from_All Named parts (λ k d within. named k d within)

    -- a part has another name than a later one, and the lower place
    abbrev Earlier : Part → Part → Type 0
    Earlier a b = (is_same_text a.name b.name ≡ false) × (is_earlier (part_place packages classifier a.name) (part_place packages classifier b.name) ≡ true)

    all-earlier : Apart Earlier parts
    all-earlier =
        Apart-from_AllPairs Earlier parts
        (λ i j d less within.
        let a = get_or parts i d in
        let b = get_or parts j d in
        let lower : nat_lt i j ≡ true = grind (arith, nat_tests, less) in (
          not-so (is_same_text a.name b.name) (λ same. differ i j d less within (text-is a.name b.name same)),
          (λ k. is_earlier (place-of i d (omega (arith, less, within)) k) (place-of j d within k)) ∙ lower,
        ))

  -- ---- the order of occurrences

  -- from this component on the path of the one comes before that of the other
  abbrev Before : Occurrence → Occurrence → Occurrence → Type 0
  Before one a b = (r : List (List ℕ)) × (s : List (List ℕ)) × (a.path ≡ one.path ++ r) × (b.path ≡ one.path ++ s) × (comes_before packages (found one.classifier) r s ≡ true)

  module _ (one : Occurrence) where
    abbrev here : Option ClassifierId
    here = found one.classifier

    abbrev at : Part → Occurrence
    at part = occurrence_of one.path part

    from-part : (path : List (List ℕ)) (part : Part) (rest : List (List ℕ)) → path ≡ (one.path ++ part.name ∷ []) ++ rest → path ≡ one.path ++ (part.name ∷ rest)
    from-part path part rest is = is ∙ append_assoc one.path (part.name ∷ []) rest

    first-here : (part : Part) (o : Occurrence) → Under (one.path ++ part.name ∷ []) o.path → Before one one o
    first-here part o under = ([], part.name ∷ under.0, sym (append-nil one.path), from-part o.path part under.0 under.1, refl)

    across : (a b : Part) → Earlier here a b → (x y : Occurrence) → Under (one.path ++ a.name ∷ []) x.path → Under (one.path ++ b.name ∷ []) y.path → Before one x y
    across a b earlier x y ux uy = (
      a.name ∷ ux.0,
      b.name ∷ uy.0,
      from-part x.path a ux.0 ux.1,
      from-part y.path b uy.0 uy.1,
      ap
          (λ t.
          cond t (option_map_or (λ next. comes_before packages next ux.0 uy.0) (part_named packages here a.name) false) (is_earlier (part_place packages here a.name) (part_place packages here b.name))) earlier.0
          ∙ earlier.1,
    )

    within : (part : Part) → Named here part → (x y : Occurrence) → Before (at part) x y → Before one x y
    within part is x y before = (
      part.name ∷ before.0,
      part.name ∷ before.1,
      from-part x.path part before.0 before.2,
      from-part y.path part before.1 before.3,
      ap
          (λ t.
          cond t (option_map_or (λ next. comes_before packages next before.0 before.1) (part_named packages here part.name) false)
          (is_earlier (part_place packages here part.name) (part_place packages here part.name))) (text-same part.name part.name refl)
          ∙ ap (λ o. option_map_or (λ next. comes_before packages next before.0 before.1) o false) is ∙ before.4,
    )

  order-preorder : (levels : ℕ) (one : Occurrence) → Apart (Before one) (preorder levels packages one)
  unfolding preorder
  order-preorder zero one = tt
  order-preorder (suc levels) one =
      let here = found one.classifier in
      let below : Part → List Occurrence = λ part. preorder levels packages (occurrence_of one.path part) in
      let inside = apart-flat_map (Before one) below (Earlier here)
      (λ a b earlier.
      each-weaker (λ (x : Occurrence). Under (one.path ++ a.name ∷ []) x.path) (λ x. AllByRecursion (Before one x) (below b))
      (λ x ux. each-weaker (λ (y : Occurrence). Under (one.path ++ b.name ∷ []) y.path) (Before one x) (λ y uy. across one a b earlier x y ux uy) (below b) (all-under packages levels (occurrence_of one.path b))) (below a)
      (all-under packages levels (occurrence_of one.path a))) (parts_at packages here) (all-earlier here)
      (each-weaker (Named here) (λ part. Apart (Before one) (below part))
      (λ part is. apart-weaker (Before (occurrence_of one.path part)) (Before one) (within one part is) (below part) (order-preorder levels (occurrence_of one.path part))) (parts_at packages here) (all-named here)) in (
        below-each packages (Before one one) levels one
            (λ part.
            each-weaker (λ (o : Occurrence). Under (one.path ++ part.name ∷ []) o.path) (Before one one) (first-here one part) (preorder levels packages (occurrence_of one.path part))
            (all-under packages levels (occurrence_of one.path part))),
        subst (Apart (Before one)) (sym (flat_map-map (preorder levels packages) (occurrence_of one.path) (parts_at packages here))) inside,
      )

  pub are-in-order : (root : ClassifierId) → AreInOrder packages root
  are-in-order root =
      let from-root : (a b : Occurrence) → Before (root_of root) a b → IsTrue (comes_before packages (Some root) a.path b.path) =
      λ a b before. (λ i. comes_before packages (Some root) (before.2 i) (before.3 i)) ∙ before.4 in
      let Order : Component → Component → Type 0 = λ a b. IsTrue (comes_before packages (Some root) a.path b.path) in
      let all = preorder 34 packages (root_of root) in
      AllPairs-from_Apart Order (components_of packages root)
      (apart-map Order component_of all
      (apart-weaker (Before (root_of root)) (λ (a b : Occurrence). IsTrue (comes_before packages (Some root) a.path b.path)) from-root all (order-preorder 34 (root_of root))))
