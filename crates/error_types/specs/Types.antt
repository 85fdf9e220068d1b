-- Which types a written set denotes (EMV2: type hierarchy, type sets).
use Rattle.std.specs.Prelude.{ℕ, zero, suc, ◌^◌, Bool, false, ◌&&◌, ◌||◌, nat_eq, nat_lt, List, [], ◌∷◌, ◌++◌, length, filter, slice_get, Option, Some, None, option_and_then}
use Rattle.std.specs.List.{list_any}
use Rattle.plain_values.specs.Numbered.{numbers_below}
use Rattle.aadl_syntax.specs.declared.core_model.PackageUnit.{PackageUnit}
use Rattle.aadl_syntax.specs.declared.error_model.TypeKind.{TypeKind}
use Rattle.aadl_syntax.specs.declared.error_model.TypeKind.TheVariants.{Plain, Alias, Set, SetAlias}
use Rattle.aadl_syntax.specs.declared.error_model.TypeSet.{TypeSet}
use Rattle.aadl_syntax.specs.declared.place.Ref.{Ref}
use Rattle.error_libraries.specs.declared.id.ItemId.{ItemId}
use Rattle.error_libraries.specs.declared.scope.Scope.{Scope}
use Rattle.error_libraries.specs.Libraries.{Table, item_at, libraries_named, library_scope, number_of}
use Rattle.error_libraries.specs.Search.{named}
use Rattle.error_types.specs.Walk.{set_types}

-- ---- texts

-- The libraries in which a clause or a machine finds a bare name: those whose types it uses, and then that of its package.
abbrev pub text_scope : List PackageUnit → ℕ → List Ref → Scope
text_scope packages number uses = record { «package» = number; libraries = libraries_named packages number uses ++ number ∷ [] }

-- ---- subtypes

-- the type that an item of this kind is: it itself, or what an alias of a type stands for
abbrev pub type_by : (Scope → Ref → Option ℕ) → Table → ItemId → TypeKind → Option ℕ
type_by look table id (Plain base) = number_of table id
type_by look table id (Alias target) = look (library_scope table id.«package») target
type_by look table id (Set set) = None
type_by look table id (SetAlias target) = None

-- the type that an item is, if it is one
abbrev pub type_at : (Scope → Ref → Option ℕ) → Table → Option ItemId → Option ℕ
type_at look table None = None
type_at look table (Some id) = option_and_then (λ item. type_by look table id item.kind) (item_at table.libraries id)

-- The type that a name means in a text, through at most so many aliases.
unfoldable pub type_named : ℕ → Table → Scope → Ref → Option ℕ
type_named zero table scope reference = None
type_named (suc steps) table scope reference = type_at (type_named steps table) table (named table scope reference).target

-- the name of the type that an item extends
abbrev pub extends_in : TypeKind → Option Ref
extends_in (Plain base) = base
extends_in (Alias target) = None
extends_in (Set set) = None
extends_in (SetAlias target) = None

-- The type that the type of an item extends. One whose `extends` names no type extends none. No index has as many as 2^64
-- aliases.
abbrev pub base_of : Table → ItemId → Option ℕ
base_of table id =
    option_and_then (type_named (2 ^ 64) table (library_scope table id.«package»)) (option_and_then (λ item. extends_in item.kind) (item_at table.libraries id))

-- the type that a type of this number extends
abbrev pub base : Table → ℕ → Option ℕ
base table number = option_and_then (base_of table) (slice_get table.types number)

-- whether the type that a type extends, if any, is so
abbrev pub is_base_so : (ℕ → Bool) → Option ℕ → Bool
is_base_so is_so None = false
is_base_so is_so (Some number) = is_so number

-- whether one type is another, or extends one that is below it, in at most so many steps
unfoldable pub is_below_in : ℕ → (ℕ → Option ℕ) → ℕ → ℕ → Bool
is_below_in zero base low high = nat_eq low high
is_below_in (suc steps) base low high = nat_eq low high || is_base_so (λ number. is_below_in steps base number high) (base low)

-- Whether the type `low` is below the type `high`: it is that type, or extends one that is below it. As many steps as there are
-- types lead to each.
abbrev pub is_below : Table → ℕ → ℕ → Bool
is_below table low high = (nat_lt low (length table.types) && nat_lt high (length table.types)) && is_below_in (length table.types) (base table) low high

-- ---- written sets

-- The types that a written set denotes in a text, rising: those that are below one that it names.
abbrev pub denoted : Table → Scope → TypeSet → List ℕ
denoted table scope set = filter (λ low. list_any (is_below table low) (set_types table scope set)) (numbers_below (length table.types))
