-- What the names of packages and of classifiers mean (AS5506: packages, aliases and references).
use Rattle.std.specs.Prelude.{ℕ, Bool, true, false, ◌&&◌, List, [], ◌∷◌, slice_get, find, position, flat_map, Option, Some, None, option_map, option_and_then, ok_or, Result, Ok, Err}
use Rattle.std.specs.Option.{option_or}
use Rattle.std.specs.Bool.{beq}
use Rattle.plain_values.specs.Name.{is_same_text}
use Rattle.aadl_syntax.specs.declared.core_model.Alias.{Alias}
use Rattle.aadl_syntax.specs.declared.core_model.Decl.{Decl}
use Rattle.aadl_syntax.specs.declared.core_model.PackageUnit.{PackageUnit}
use Rattle.aadl_syntax.specs.declared.core_model.Unit.{Unit}
use Rattle.aadl_syntax.specs.declared.core_model.Unit.TheVariants.{Package, PropertySet}
use Rattle.plain_values.specs.declared.refusal.Code.{Code}
use Rattle.plain_values.specs.declared.refusal.Code.TheVariants.{UnknownPackage, UnknownClassifier}
use Rattle.plain_values.specs.declared.refusal.Place.{Place}
use Rattle.plain_values.specs.declared.refusal.Refusal.{Refusal}
use Rattle.plain_values.specs.Refusal.{refusal}
use Rattle.package_index.specs.declared.id.ClassifierId.{ClassifierId}
use Rattle.package_index.specs.Names.{front, is_same_name, is_same_item, last, only}

-- ---- what is declared

-- the package of a unit, if it is one
abbrev pub package_of : Unit → List PackageUnit
package_of (Package unit) = unit ∷ []
package_of (PropertySet name spot) = []

-- the packages of all files, in the order of the files and of the text; a package is named by its place among them
abbrev pub packages_of : List (List Unit) → List PackageUnit
packages_of files = flat_map (flat_map package_of) files

-- whether a package has the name
abbrev pub has_name : List (List ℕ) → PackageUnit → Bool
has_name name unit = is_same_name unit.name name

-- the package that is declared with this name
abbrev pub declared_package : List PackageUnit → List (List ℕ) → Option ℕ
declared_package packages name = position (has_name name) packages

-- whether a classifier has the name and the item
abbrev pub is_named : List ℕ → Option (List ℕ) → Decl → Bool
is_named name item decl = is_same_text decl.name name && is_same_item decl.item item

-- the place of the classifier that is declared in a package with this name and item
abbrev pub declared : PackageUnit → List ℕ → Option (List ℕ) → Option ℕ
declared unit name item = position (is_named name item) unit.decls

-- the same, in the package of a number
abbrev pub declared_in : List PackageUnit → ℕ → List ℕ → Option (List ℕ) → Option ClassifierId
declared_in packages number name item =
    option_map (λ decl. record { «package» = number; decl = decl }) (option_and_then (λ unit. declared unit name item) (slice_get packages number))

-- the declaration of a classifier
abbrev pub decl_of : List PackageUnit → ClassifierId → Option Decl
decl_of packages id = option_and_then (λ unit. slice_get unit.decls id.decl) (slice_get packages id.«package»)

-- ---- aliases

-- whether an alias has the name, and stands for a package or for a classifier as is asked
abbrev pub is_alias : Bool → List ℕ → Alias → Bool
is_alias of_package name alias = beq alias.«package» of_package && is_same_text alias.name name

-- the names for which an alias of a package stands: the first of that name counts
abbrev pub alias_in : Bool → PackageUnit → List ℕ → Option (List (List ℕ))
alias_in of_package unit name = option_map (λ alias. alias.names) (find (is_alias of_package name) unit.aliases)

-- the package name for which a name stands in a package, where it is one identifier and a package alias there
abbrev pub package_alias : Option PackageUnit → List (List ℕ) → Option (List (List ℕ))
package_alias from name = option_and_then (λ unit. option_and_then (alias_in true unit) (only name)) from

-- the package of a number, where a name stands in one
abbrev pub package_at : List PackageUnit → Option ℕ → Option PackageUnit
package_at packages from = option_and_then (slice_get packages) from

-- ---- look-up

-- the one, or else the other
abbrev pub or_itself : Option (List (List ℕ)) → List (List ℕ) → List (List ℕ)
or_itself None name = name
or_itself (Some other) name = other

-- The package that a package name means where it stands: what its alias stands for is a declared package and never
-- another alias, and an alias of no declared package means nothing. A name that is no alias means the declared package.
abbrev pub look_package : List PackageUnit → Option ℕ → List (List ℕ) → Option ℕ
look_package packages from name = declared_package packages (or_itself (package_alias (package_at packages from) name) name)

-- the package in which a classifier is looked for: that of the names before the last, or without such names the
-- package where the reference stands
abbrev pub package_meant : List PackageUnit → Option ℕ → List (List ℕ) → Option ℕ
package_meant packages from [] = from
package_meant packages from (name ∷ names) = look_package packages from (name ∷ names)

-- the declared classifier that names with an item mean where they stand
abbrev pub declared_by : List PackageUnit → Option ℕ → List (List ℕ) → Option (List ℕ) → Option ClassifierId
declared_by packages from names item =
    option_and_then (λ number. option_and_then (λ name. declared_in packages number name item) (last names)) (package_meant packages from (front names))

-- what the classifier alias of a name and an item stands for in the package of a number: a declared classifier
abbrev pub aliased_in : List PackageUnit → ℕ → List ℕ → Option (List ℕ) → Option ClassifierId
aliased_in packages number name item =
    option_and_then (λ names. declared_by packages (Some number) names item) (option_and_then (λ unit. alias_in false unit name) (slice_get packages number))

-- the classifier of a name and an item in the package of a number: a declared one comes before an alias
abbrev pub classifier_in : List PackageUnit → ℕ → List ℕ → Option (List ℕ) → Option ClassifierId
classifier_in packages number name item = option_or (declared_in packages number name item) (aliased_in packages number name item)

-- the classifier of the last of the names, in the package of a number if there is one
abbrev pub look_in : List PackageUnit → Option ℕ → List (List ℕ) → Option (List ℕ) → Result ClassifierId Code
look_in packages None names item = Err UnknownPackage
look_in packages (Some number) names item = ok_or (option_and_then (λ name. classifier_in packages number name item) (last names)) UnknownClassifier

-- The classifier that names with an item mean where they stand. N2 where the package is not found, N3 where the
-- classifier is not.
abbrev pub look_classifier : List PackageUnit → Option ℕ → List (List ℕ) → Option (List ℕ) → Result ClassifierId Code
look_classifier packages from names item = look_in packages (package_meant packages from (front names)) names item

-- ---- refusals

-- what is found, or the refusal at this place
abbrev pub refused_at : Place → Result ClassifierId Code → Result ClassifierId Refusal
refused_at place (Ok id) = Ok id
refused_at place (Err code) = Err (refusal code place)
