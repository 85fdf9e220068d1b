-- Packages of one name, and classifiers of one name in a package.
use Rattle.std.specs.Prelude.{◌≡◌, ◌⊎◌, Any, Bool, true, List, [], ◌∷◌, ◌++◌, Contains, flat_map}
use Rattle.std.specs.List.{list_any}
use Rattle.aadl_syntax.specs.declared.core_model.Decl.{Decl}
use Rattle.aadl_syntax.specs.declared.core_model.PackageUnit.{PackageUnit}
use Rattle.plain_values.specs.declared.spot.Spot.{Spot}
use Rattle.plain_values.specs.declared.refusal.Code.TheVariants.{DuplicateUnit}
use Rattle.plain_values.specs.declared.refusal.Refusal.{Refusal}
use Rattle.package_index.specs.Lookup.{has_name, is_named}
use Rattle.plain_values.specs.Refusal.{place_of, refusal, refused_so}

-- ---- each name that is declared again, in order

-- N1 at a name, where its name was declared before
abbrev pub again_at : Bool → Spot → List Refusal
again_at is_again spot = refused_so is_again DuplicateUnit spot

-- N1 at each of the items, in order, that is the same as one before it; `before` are the items that stand before these
abbrev pub again_after : {Item : Type 0} → (Item → Item → Bool) → (Item → Spot) → List Item → List Item → List Refusal
again_after same spot_of before [] = []
again_after same spot_of before (item ∷ items) = again_at (list_any (same item) before) (spot_of item) ++ again_after same spot_of (before ++ item ∷ []) items

-- N1 at each package whose name an earlier one has
abbrev pub packages_again : List PackageUnit → List Refusal
packages_again packages = again_after (λ later earlier. has_name later.name earlier) (λ unit. unit.spot) [] packages

-- N1 at each classifier of a package whose name and item an earlier one of the package has
abbrev pub classifiers_again : List Decl → List Refusal
classifiers_again decls = again_after (λ later earlier. is_named later.name later.item earlier) (λ decl. decl.spot) [] decls

-- N1 at each second package and at each second classifier
abbrev pub duplicates : List PackageUnit → List Refusal
duplicates packages = flat_map (λ unit. classifiers_again unit.decls) packages ++ packages_again packages

-- ---- the same in words

-- An item is the same as one before it, and the refusal is N1 at the later one.
pub record IsAgain {Item : Type 0} (same : Item → Item → Bool) (spot_of : Item → Spot) (items : List Item) (n1 : Refusal) : Type 0 where
  pub before : List Item
  pub item : Item
  pub after : List Item
  pub whole : items ≡ before ++ item ∷ after
  pub again : Any (λ earlier. same item earlier ≡ true) before
  pub is : n1 ≡ refusal DuplicateUnit (place_of (spot_of item))

-- The refusal is N1 at a second package of a name.
abbrev pub IsSecondPackage : List PackageUnit → Refusal → Type 0
IsSecondPackage packages = IsAgain (λ later earlier. has_name later.name earlier) (λ unit. unit.spot) packages

-- The refusal is N1 at a second classifier of a name and an item in one of the packages.
abbrev pub IsSecondClassifier : List PackageUnit → Refusal → Type 0
IsSecondClassifier packages n1 = (unit : PackageUnit) × Contains packages unit × IsAgain (λ later earlier. is_named later.name later.item earlier) (λ decl. decl.spot) unit.decls n1

-- N1: a second package of a name, or a second classifier of a name in a package; at the later name.
abbrev pub IsDuplicate : List PackageUnit → Refusal → Type 0
IsDuplicate packages n1 = IsSecondClassifier packages n1 ⊎ IsSecondPackage packages n1
