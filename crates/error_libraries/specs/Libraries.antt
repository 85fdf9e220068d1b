-- The error types that libraries declare (EMV2: error type libraries).
use Rattle.std.specs.Prelude.{◌≡◌, ℕ, ◌<◌, Bool, true, false, cond, ◌&&◌, ◌||◌, nat_eq, List, [], ◌∷◌, ◌++◌, length, flat_map, position, slice_get, Option, Some, None, option_and_then, option_to_list, is_none}
use Rattle.std.specs.List.{list_any}
use Rattle.plain_values.specs.Name.{is_same_text}
use Rattle.plain_values.specs.Order.{least}
use Rattle.profiles.specs.declared.profile.Profile.{Profile}
use Rattle.aadl_syntax.specs.declared.core_model.PackageUnit.{PackageUnit}
use Rattle.aadl_syntax.specs.declared.error_model.TypeItem.{TypeItem}
use Rattle.aadl_syntax.specs.declared.error_model.TypeKind.{TypeKind}
use Rattle.aadl_syntax.specs.declared.error_model.TypeKind.TheVariants.{Plain, Alias, Set, SetAlias}
use Rattle.aadl_syntax.specs.declared.error_model.TypesBlock.{TypesBlock}
use Rattle.aadl_syntax.specs.declared.place.Ref.{Ref}
use Rattle.plain_values.specs.declared.refusal.Code.TheVariants.{UnknownPackage, TooManyTypes}
use Rattle.plain_values.specs.declared.refusal.Refusal.{Refusal}
use Rattle.package_index.specs.Lookup.{look_package}
use Rattle.plain_values.specs.Refusal.{refused_so, of_words}
use Rattle.plain_values.specs.Numbered.{numbered_from}
use Rattle.error_libraries.specs.declared.id.ItemId.{ItemId}
use Rattle.error_libraries.specs.declared.scope.Scope.{Scope}

-- ---- names of libraries

-- the library that a name means in a text of the package: that of the package of this name
abbrev pub library_named : List PackageUnit → ℕ → Ref → Option ℕ
library_named packages from reference = look_package packages (Some from) reference.names

-- the libraries that names mean, in order, but for those that mean none
abbrev pub libraries_named : List PackageUnit → ℕ → List Ref → List ℕ
libraries_named packages from references = flat_map (λ reference. option_to_list (library_named packages from reference)) references

-- N2 at each name that means no library
abbrev pub unknown_libraries : List PackageUnit → ℕ → List Ref → List Refusal
unknown_libraries packages from references = flat_map (λ reference. refused_so (is_none (library_named packages from reference)) UnknownPackage reference.spot) references

-- ---- libraries

-- A library: the items of its blocks, the libraries that it extends, where its text looks for a bare name, and the first
-- refusal of its names of libraries.
pub record Library : Type 0 where
  pub items : List TypeItem
  pub extends : List ℕ
  pub scope : Scope
  pub unknown : Option Refusal

-- the items of blocks
abbrev pub items_of : List TypesBlock → List TypeItem
items_of blocks = flat_map (λ block. block.items) blocks

-- the libraries that blocks extend
abbrev pub extended_by : List PackageUnit → ℕ → List TypesBlock → List ℕ
extended_by packages number blocks = flat_map (λ block. libraries_named packages number block.extends) blocks

-- the libraries whose types blocks use
abbrev pub used_by : List PackageUnit → ℕ → List TypesBlock → List ℕ
used_by packages number blocks = flat_map (λ block. libraries_named packages number block.uses) blocks

-- N2 at each name of a library that blocks use or extend, and that means none
abbrev pub unknown_to : List PackageUnit → ℕ → List TypesBlock → List Refusal
unknown_to packages number blocks = flat_map (λ block. unknown_libraries packages number block.uses ++ unknown_libraries packages number block.extends) blocks

-- The library of a package of this number. Its text looks for a bare name in it itself, and then in those whose types it uses.
-- A package without error types has a library without items.
abbrev pub library_of : List PackageUnit → ℕ → PackageUnit → Library
library_of packages number unit = record {
  items = items_of unit.library.blocks;
  extends = extended_by packages number unit.library.blocks;
  scope = record { «package» = number; libraries = number ∷ used_by packages number unit.library.blocks };
  unknown = least (unknown_to packages number unit.library.blocks);
}

-- the libraries of all packages, in order
abbrev pub libraries_of : List PackageUnit → List Library
libraries_of packages = numbered_from (λ number unit. library_of packages number unit ∷ []) 0 packages

-- ---- items

-- what a list of a library has, if there is the library
abbrev pub of_library : {Part : Type 0} → (Library → List Part) → Option Library → List Part
of_library part None = []
of_library part (Some library) = part library

-- whether an item has the name
abbrev pub has_item_name : List ℕ → TypeItem → Bool
has_item_name name item = is_same_text item.name name

-- the item of a number
abbrev pub item_at : List Library → ItemId → Option TypeItem
item_at libraries id = option_and_then (λ library. slice_get library.items id.item) (slice_get libraries id.«package»)

-- whether two items are the same
abbrev pub is_same_item : ItemId → ItemId → Bool
is_same_item a b = nat_eq a.«package» b.«package» && nat_eq a.item b.item

-- whether an item is one of these
abbrev pub is_item_in : List ItemId → ItemId → Bool
is_item_in ids id = list_any (λ other. is_same_item other id) ids

-- ---- types

-- whether an item declares a type, and no alias or set
abbrev pub is_type : TypeKind → Bool
is_type (Plain base) = true
is_type (Alias target) = false
is_type (Set set) = false
is_type (SetAlias target) = false

-- whether an item declares a set, or an alias of one
abbrev pub is_set : TypeKind → Bool
is_set (Plain base) = false
is_set (Alias target) = false
is_set (Set set) = true
is_set (SetAlias target) = true

-- whether an item declares a type of this name
abbrev pub is_type_named : List ℕ → TypeItem → Bool
is_type_named name item = is_type item.kind && has_item_name name item

-- whether a place, if there is one, is this one
abbrev pub is_place : Option ℕ → ℕ → Bool
is_place None place = false
is_place (Some other) place = nat_eq other place

-- Whether the item of a place declares a type, and is the first of the items that declares a type of its name, unless each of
-- them counts.
abbrev pub is_counted : Bool → List TypeItem → ℕ → TypeItem → Bool
is_counted each items place item = is_type item.kind && (each || is_place (position (is_type_named item.name) items) place)

-- the item of a place of a library of this number, if it counts
abbrev pub counted : Bool → ℕ → List TypeItem → ℕ → TypeItem → List ItemId
counted each number items place item = cond (is_counted each items place item) (record { «package» = number; item = place } ∷ []) []

-- the types of a library of this number
abbrev pub types_in : Bool → ℕ → List TypeItem → List ItemId
types_in each number items = numbered_from (counted each number items) 0 items

-- the types of all libraries, in the order of the files and of the text
abbrev pub types_by : Bool → List Library → List ItemId
types_by each libraries = numbered_from (λ number library. types_in each number library.items) 0 libraries

-- All types: of those of one name in a library the first. A type is named by its place among them.
abbrev pub types_of : List Library → List ItemId
types_of libraries = types_by false libraries

-- the declared types of all libraries, also those of a name that an earlier one has
abbrev pub declared_types : List Library → List ItemId
declared_types libraries = types_by true libraries

-- ---- the table

-- What is known of the types of all packages, and the profile by which they are read.
pub record Table : Type 0 where
  pub profile : Profile
  pub packages : List PackageUnit
  pub libraries : List Library
  pub types : List ItemId

-- what the packages declare, read by this profile
abbrev pub table_of : Profile → List PackageUnit → Table
table_of profile packages = record { profile = profile; packages = packages; libraries = libraries_of packages; types = types_of (libraries_of packages) }

-- the number of a type
abbrev pub number_of : Table → ItemId → Option ℕ
number_of table id = position (λ other. is_same_item other id) table.types

-- where the text of a library looks for a bare name, if there is the library
abbrev pub scope_of : Option Library → Scope
scope_of None = record { «package» = 0; libraries = [] }
scope_of (Some library) = library.scope

-- the same of the library of a package of this number
abbrev pub library_scope : Table → ℕ → Scope
library_scope table number = scope_of (slice_get table.libraries number)

-- how many types may be declared
abbrev pub greatest_types : ℕ
greatest_types = 1024

-- M8: more types are declared.
pub record HasTooManyTypes (packages : List PackageUnit) (m8 : Refusal) : Type 0 where
  pub many : greatest_types < length (declared_types (libraries_of packages))
  pub is : m8 ≡ of_words TooManyTypes
