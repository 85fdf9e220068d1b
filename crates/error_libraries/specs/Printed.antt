-- How an error type prints.
use Rattle.std.specs.Prelude.{ℕ, List, ◌++◌, codes, flat_map, slice_get, Option, option_and_then, option_map}
use Rattle.error_libraries.specs.declared.id.ItemId.{ItemId}
use Rattle.error_libraries.specs.Libraries.{Table, item_at}

-- The name of a type by its own declaration: the identifiers of the name of its library, which is that of the package, and its
-- own name.
pub record TypeName : Type 0 where
  pub library : List (List ℕ)
  pub name : List ℕ

-- the name of the type that an item declares
abbrev pub item_name : Table → ItemId → Option TypeName
item_name table id =
    option_and_then (λ unit. option_map (λ item. record { library = unit.name; name = item.name }) (item_at table.libraries id)) (slice_get table.packages id.«package»)

-- the name of the type of a number
abbrev pub name_of : Table → ℕ → Option TypeName
name_of table number = option_and_then (item_name table) (slice_get table.types number)

-- A type prints as `lib::t`: each identifier of its library with `::` behind it, and then its own name.
abbrev pub printed : TypeName → List ℕ
printed name = flat_map (λ identifier. identifier ++ codes "::") name.library ++ name.name
