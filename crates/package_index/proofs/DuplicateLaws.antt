-- The list of duplicates has each duplicate and nothing else.
use Rattle.std.proofs.Common.{◌≡◌, Bool, true, false, List, [], ◌∷◌, ◌++◌, inl, inr, Contains, MatchOption, None, Some, Option, get_or, flat_map, refl, sym, ap, ◌∙◌, subst, arith}
use Rattle.std.specs.List.{list_any}
use Rattle.std.proofs.lemmas.Bool.{false≢true}
use Rattle.std.proofs.lemmas.List.{append-nil, append_assoc}
use Rattle.std.proofs.lemmas.List.Folds.{Any-from_list_any, list_any-from_Any}
use Rattle.std.proofs.lemmas.List.Elements.{Contains-append_cases, Contains-append_left, Contains-append_right}
use Rattle.aadl_syntax.specs.declared.core_model.PackageUnit.{PackageUnit}
use Rattle.plain_values.specs.declared.spot.Spot.{Spot}
use Rattle.plain_values.specs.declared.refusal.Code.TheVariants.{DuplicateUnit}
use Rattle.plain_values.specs.declared.refusal.Refusal.{Refusal}
use Rattle.plain_values.specs.Order.{IsClear, IsFirst}
use Rattle.package_index.specs.Duplicates.{IsAgain, IsDuplicate, again_after, again_at, classifiers_again, duplicates, packages_again}
use Rattle.package_index.specs.Lookup.{has_name, is_named}
use Rattle.plain_values.specs.Refusal.{place_of, refusal}

module _ {A : Type 0} where
  none_in : (x : A) → Contains [] x → ⊥
  none_in x there = omega (arith, there.1)

  one_in : (x y : A) → Contains (x ∷ []) y → x ≡ y
  one_in x y here =
      let first : here.0 ≡ 0 = omega (arith, here.1) in
      ap (λ k. get_or (x ∷ []) k y) (sym first) ∙ here.2

-- ---- one list of items

at-to : (b : Bool) (spot : Spot) (n1 : Refusal) → Contains (again_at b spot) n1 → (b ≡ true) × (n1 ≡ refusal DuplicateUnit (place_of spot))
at-to true spot n1 here = (refl, sym (one_in _ n1 here))
at-to false spot n1 here = absurd (none_in n1 here)

at-from : (b : Bool) (spot : Spot) → b ≡ true → Contains (again_at b spot) (refusal DuplicateUnit (place_of spot))
at-from true spot is = (0, omega arith, refl)
at-from false spot is = absurd (false≢true is)

module _ {Item : Type 0} (same : Item → Item → Bool) (spot_of : Item → Spot) where
  abbrev Again : List Item → List Item → Refusal → Type 0
  Again before items n1 = (front : List Item) × (item : Item) × (back : List Item) × (items ≡ front ++ item ∷ back) × (list_any (same item) (before ++ front) ≡ true) × (n1 ≡ refusal DuplicateUnit (place_of (spot_of item)))

  again-here : (before : List Item) (item : Item) (items : List Item) (n1 : Refusal) → (list_any (same item) before ≡ true) × (n1 ≡ refusal DuplicateUnit (place_of (spot_of item))) → Again before (item ∷ items) n1
  again-here before item items n1 both = ([], item, items, refl, ap (list_any (same item)) (append-nil before) ∙ both.0, both.1)

  again-later : (before : List Item) (first : Item) (items : List Item) (n1 : Refusal) → Again (before ++ first ∷ []) items n1 → Again before (first ∷ items) n1
  again-later before first items n1 (front, item, back, whole, again, is) =
      (first ∷ front, item, back, ap (λ xs. first ∷ xs) whole, ap (list_any (same item)) (sym (append_assoc before (first ∷ []) front)) ∙ again, is)

  again-to : (before items : List Item) (n1 : Refusal) → Contains (again_after same spot_of before items) n1 → Again before items n1
  again-to before [] n1 there = absurd (none_in n1 there)
  again-to before (item ∷ items) n1 there =
      elim (Contains-append_cases (again_at (list_any (same item) before) (spot_of item)) (again_after same spot_of (before ++ item ∷ []) items) n1 there) [
        | inl here ↦ again-here before item items n1 (at-to (list_any (same item) before) (spot_of item) n1 here)
        | inr later ↦ again-later before item items n1 (again-to (before ++ item ∷ []) items n1 later)
      ]

  again-from : (before front : List Item) (item : Item) (back : List Item) → list_any (same item) (before ++ front) ≡ true → Contains (again_after same spot_of before (front ++ item ∷ back)) (refusal DuplicateUnit (place_of (spot_of item)))
  again-from before [] item back again =
      Contains-append_left (again_at (list_any (same item) before) (spot_of item)) (again_after same spot_of (before ++ item ∷ []) back) _ (at-from (list_any (same item) before) (spot_of item) (ap (list_any (same item)) (sym (append-nil before)) ∙ again))
  again-from before (first ∷ front) item back again =
      Contains-append_right (again_at (list_any (same first) before) (spot_of first)) (again_after same spot_of (before ++ first ∷ []) (front ++ item ∷ back)) _
      (again-from (before ++ first ∷ []) front item back (ap (list_any (same item)) (append_assoc before (first ∷ []) front) ∙ again))

  is_again : (items : List Item) (n1 : Refusal) → Contains (again_after same spot_of [] items) n1 → IsAgain same spot_of items n1
  is_again items n1 there =
      let (front, item, back, whole, again, is) = again-to [] items n1 there in
      record { before = front; item = item; after = back; whole = whole; again = Any-from_list_any (same item) front again; is = is }

  listed : (items : List Item) (n1 : Refusal) → IsAgain same spot_of items n1 → Contains (again_after same spot_of [] items) n1
  listed items n1 again =
      subst (λ xs. Contains (again_after same spot_of [] xs) n1) (sym again.whole)
      (subst (Contains (again_after same spot_of [] (again.before ++ again.item ∷ again.after))) (sym again.is)
      (again-from [] again.before again.item again.after (list_any-from_Any (same again.item) again.before again.again)))

-- ---- lists of lists

module _ {A B : Type 0} (f : A → List B) (y : B) where
  flat-to : (xs : List A) → Contains (flat_map f xs) y → (x : A) × Contains xs x × Contains (f x) y
  flat-to [] there = absurd (none_in y there)
  flat-to (x ∷ xs) there =
      elim (Contains-append_cases (f x) (flat_map f xs) y there) [
        | inl here ↦ (x, (0, omega arith, refl), here)
        | inr later ↦ (let (z, within, its) = flat-to xs later in (z, Contains-append_right (x ∷ []) xs z within, its))
      ]

  flat-from : (xs : List A) (x : A) → Contains xs x → Contains (f x) y → Contains (flat_map f xs) y
  flat-from [] x within its = absurd (none_in x within)
  flat-from (first ∷ xs) x within its =
      elim (Contains-append_cases (first ∷ []) xs x within) [
        | inl here ↦ Contains-append_left (f first) (flat_map f xs) y (subst (λ z. Contains (f z) y) (sym (one_in first x here)) its)
        | inr later ↦ Contains-append_right (f first) (flat_map f xs) y (flat-from xs x later its)
      ]

-- ---- all packages

module _ (packages : List PackageUnit) where
  abbrev classifiers : PackageUnit → List Refusal
  classifiers unit = classifiers_again unit.decls

  pub is_duplicate : (n1 : Refusal) → Contains (duplicates packages) n1 → IsDuplicate packages n1
  is_duplicate n1 there =
      elim (Contains-append_cases (flat_map classifiers packages) (packages_again packages) n1 there) [
        | inl inside ↦ (let (unit, within, its) = flat-to classifiers n1 packages inside in inl (unit, within, is_again (λ later earlier. is_named later.name later.item earlier) (λ decl. decl.spot) unit.decls n1 its))
        | inr again ↦ inr (is_again (λ later earlier. has_name later.name earlier) (λ unit. unit.spot) packages n1 again)
      ]

  pub is_listed : (n1 : Refusal) → IsDuplicate packages n1 → Contains (duplicates packages) n1
  is_listed n1 (inl (unit, within, its)) =
      Contains-append_left (flat_map classifiers packages) (packages_again packages) n1 (flat-from classifiers n1 packages unit within (listed (λ later earlier. is_named later.name later.item earlier) (λ decl. decl.spot) unit.decls n1 its))
  is_listed n1 (inr again) = Contains-append_right (flat_map classifiers packages) (packages_again packages) n1 (listed (λ later earlier. has_name later.name earlier) (λ unit. unit.spot) packages n1 again)

  -- what the first of the list says
  pub told : (first : Option Refusal) → MatchOption first (duplicates packages ≡ []) (λ n1. IsFirst (Contains (duplicates packages)) n1) → MatchOption first (IsClear (IsDuplicate packages)) (λ n1. IsFirst (IsDuplicate packages) n1)
  told None none = λ n1 duplicate. none_in n1 (subst (λ group. Contains group n1) none (is_listed n1 duplicate))
  told (Some n1) first = record { stands = is_duplicate n1 first.stands; none_before = λ other duplicate. first.none_before other (is_listed other duplicate) }
