-- Small examples of the definitions, each proved by computing it.
use Rattle.std.proofs.Common.{ℕ, ◌≡◌, Bool, true, false, List, [], ◌∷◌, codes, Some, None, Ok, Err, refl}
use Rattle.aadl_syntax.specs.declared.core_model.Alias.{Alias}
use Rattle.aadl_syntax.specs.declared.core_model.Decl.{Decl}
use Rattle.aadl_syntax.specs.declared.core_model.PackageUnit.{PackageUnit}
use Rattle.aadl_syntax.specs.declared.core_model.Unit.TheVariants.{Package, PropertySet}
use Rattle.plain_values.specs.declared.spot.Spot.{Spot}
use Rattle.plain_values.specs.declared.refusal.Code.TheVariants.{DuplicateUnit, UnknownClassifier, UnknownPackage}
use Rattle.plain_values.specs.declared.refusal.Place.TheVariants.{At}
use Rattle.package_index.specs.Duplicates.{duplicates}
use Rattle.package_index.specs.Lookup.{look_classifier, look_package, packages_of}
use Rattle.plain_values.specs.Refusal.{refusal}

abbrev spot : ℕ → Spot
spot at = record { file = 0; at = at }

abbrev type_at : ℕ → List ℕ → Decl
type_at at name = record {
  category = record { word = codes "device"; second = None };
  name = name;
  item = None;
  spot = spot at;
  extends = None;
  binds = None;
  prototypes = None;
  features = [];
  subcomponents = [];
  connections = [];
  clauses = [];
  properties = [];
}

abbrev implementation_at : ℕ → List ℕ → List ℕ → Decl
implementation_at at name item = record (type_at at name) { item = Some item }

abbrev alias : Bool → List ℕ → List (List ℕ) → Alias
alias of_package name names = record { name = name; «package» = of_package; names = names; spot = spot 0 }

abbrev unit_at : ℕ → List (List ℕ) → List Alias → List Decl → PackageUnit
unit_at at name aliases decls = record {
  name = name;
  spot = spot at;
  aliases = aliases;
  decls = decls;
  library = record { blocks = []; machines = [] };
}

-- package lib has the types s and y and the implementation s.i
abbrev lib_unit : PackageUnit
lib_unit = unit_at 1 (codes "lib" ∷ []) [] (type_at 2 (codes "s") ∷ implementation_at 3 (codes "s") (codes "i") ∷ type_at 4 (codes "y") ∷ [])

-- package a::b has aliases and the type y
abbrev aliases : List Alias
aliases =
    alias true (codes "l") (codes "lib" ∷ []) ∷ alias true (codes "l") (codes "lost" ∷ []) ∷ alias true (codes "lost") (codes "none" ∷ []) ∷ alias true (codes "m") (codes "l" ∷ [])
    ∷ alias false (codes "t") (codes "l" ∷ codes "s" ∷ []) ∷ alias false (codes "t") (codes "lib" ∷ codes "y" ∷ []) ∷ alias false (codes "y") (codes "lib" ∷ codes "s" ∷ [])
    ∷ alias false (codes "u") (codes "a" ∷ codes "b" ∷ codes "t" ∷ []) ∷ []

abbrev user_unit : PackageUnit
user_unit = unit_at 5 (codes "a" ∷ codes "b" ∷ []) aliases (type_at 6 (codes "y") ∷ [])

abbrev packages : List PackageUnit
packages = packages_of ((Package lib_unit ∷ PropertySet (codes "x") (spot 0) ∷ []) ∷ (Package user_unit ∷ Package (unit_at 7 (codes "lost" ∷ []) [] []) ∷ []) ∷ [])

-- ---- packages

by_alias : look_package packages (Some 1) (codes "l" ∷ []) ≡ Some 0
by_alias = refl

-- a name that is no alias, and one of several identifiers
by_name : look_package packages (Some 1) (codes "a" ∷ codes "b" ∷ []) ≡ Some 1
by_name = refl

-- an alias of no declared package means nothing, though a package has its name
lost_alias : look_package packages (Some 1) (codes "lost" ∷ []) ≡ None
lost_alias = refl

-- elsewhere the package of that name is meant
lost_elsewhere : look_package packages (Some 0) (codes "lost" ∷ []) ≡ Some 2
lost_elsewhere = refl

-- an alias of an alias is not followed
alias_of_alias : look_package packages (Some 1) (codes "m" ∷ []) ≡ None
alias_of_alias = refl

-- no package alias counts for the words of a command
no_alias_for_root : look_package packages None (codes "l" ∷ []) ≡ None
no_alias_for_root = refl

-- ---- classifiers

-- a type in another package, by an alias of the package
qualified : look_classifier packages (Some 1) (codes "l" ∷ codes "s" ∷ []) None ≡ Ok (record { «package» = 0; decl = 0 })
qualified = refl

-- the first alias of a name counts, and stands for a type
aliased : look_classifier packages (Some 1) (codes "t" ∷ []) None ≡ Ok (record { «package» = 0; decl = 0 })
aliased = refl

-- and with an item for the implementation of that type
aliased_implementation : look_classifier packages (Some 1) (codes "t" ∷ []) (Some (codes "i")) ≡ Ok (record { «package» = 0; decl = 1 })
aliased_implementation = refl

-- a declared classifier comes before an alias
declared_first : look_classifier packages (Some 1) (codes "y" ∷ []) None ≡ Ok (record { «package» = 1; decl = 0 })
declared_first = refl

-- which goes by name and item
declared_by_item : look_classifier packages (Some 1) (codes "y" ∷ []) (Some (codes "i")) ≡ Ok (record { «package» = 0; decl = 1 })
declared_by_item = refl

-- a classifier alias of a classifier alias means nothing
no_second_alias : look_classifier packages (Some 1) (codes "u" ∷ []) None ≡ Err UnknownClassifier
no_second_alias = refl

-- classifier aliases of the package that is named count, in a text and in the words of a command
alias_there : look_classifier packages None (codes "a" ∷ codes "b" ∷ codes "t" ∷ []) None ≡ Ok (record { «package» = 0; decl = 0 })
alias_there = refl

no_package : look_classifier packages None (codes "l" ∷ codes "s" ∷ []) None ≡ Err UnknownPackage
no_package = refl

no_classifier : look_classifier packages (Some 0) (codes "s" ∷ []) (Some (codes "j")) ≡ Err UnknownClassifier
no_classifier = refl

-- ---- duplicates

two_packages : duplicates (lib_unit ∷ user_unit ∷ unit_at 8 (codes "lib" ∷ []) [] [] ∷ []) ≡ refusal DuplicateUnit (At 0 8) ∷ []
two_packages = refl

two_classifiers : duplicates (unit_at 1 (codes "p" ∷ []) [] (type_at 2 (codes "s") ∷ implementation_at 3 (codes "s") (codes "i") ∷ type_at 4 (codes "s") ∷ implementation_at 5 (codes "s") (codes "i") ∷ []) ∷ []) ≡ refusal DuplicateUnit (At 0 4) ∷ refusal DuplicateUnit (At 0 5) ∷ []
two_classifiers = refl

none_twice : duplicates packages ≡ []
none_twice = refl
