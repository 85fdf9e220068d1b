-- Rows of types, and what is remembered of items.
use Rattle.std.specs.Prelude.{◌≡◌, ℕ, ◌<◌, ◌^◌, Bool, true, false, ◌&&◌, ◌||◌, cond, nat_lt, List, [], ◌∷◌, ◌++◌, filter, flat_map, get_or, length, map, replicate, slice_get, slice_set, Option, None, Some}
use Rattle.std.specs.HashMap.{get}
use Rattle.std.specs.List.{list_all, list_any}
use Rattle.plain_values.specs.Order.{nearer}
use Rattle.aadl_syntax.specs.declared.error_model.TypeItem.{TypeItem}
use Rattle.plain_values.specs.declared.refusal.Refusal.{Refusal}
use Rattle.package_index.specs.inner.Tables.{same_pair}
use Rattle.error_libraries.specs.declared.id.ItemId.{ItemId}
use Rattle.error_types.specs.declared.memory.Memory.{Memory}
use Rattle.error_types.specs.declared.memory.Reached.{Reached}
use Rattle.error_libraries.specs.declared.scope.Scope.{Scope}
use Rattle.error_types.specs.declared.settle.Sum.{Sum}
use Rattle.error_types.specs.inner.Grounded.{grounded, leads_so, name_first, name_leads_so, name_types, names_first, target_first, target_types}
use Rattle.error_libraries.specs.Libraries.{Table, is_type}
use Rattle.error_types.specs.Types.{is_below}
use Rattle.error_types.specs.inner.Types.{is_below_by}
use Rattle.plain_values.specs.Numbered.{numbers_below}
use Rattle.error_types.specs.Walk.{Need, walk_from}

-- ---- rows

-- for each type, whether it is below one of these
abbrev pub row_of : Table → List ℕ → List Bool
row_of table types = map (λ low. list_any (is_below table low) types) (numbers_below (length table.types))

-- whether a row has a number
abbrev pub has_bit : List Bool → ℕ → Bool
has_bit row number = get_or row number false

-- the numbers that a row has, rising
abbrev pub numbers_in : List Bool → List ℕ
numbers_in row = filter (has_bit row) (numbers_below (length row))

-- what one of two rows has
abbrev pub either : List Bool → List Bool → List Bool
either [] other = []
either (bit ∷ row) [] = bit ∷ row
either (bit ∷ row) (also ∷ other) = (bit || also) ∷ either row other

-- the row of the types that are below a type, by the list of what the types extend
abbrev pub row_below : List (Option ℕ) → ℕ → List Bool
row_below bases high = map (λ low. is_below_by bases low high) (numbers_below (length bases))

-- such a row for each type, and then a row of none
abbrev pub rows_by : List (Option ℕ) → List (List Bool)
rows_by bases = map (row_below bases) (numbers_below (length bases)) ++ replicate (length bases) false ∷ []

-- the rows of the types with those of the types in them that have a number below this one
abbrev pub rows_so_far : List (Option ℕ) → ℕ → List (List Bool)
rows_so_far bases count = map (λ high. map (λ low. nat_lt low count && is_below_by bases low high) (numbers_below (length bases))) (numbers_below (length bases))

-- the rows with this number in the row of this place, where there is one
abbrev pub put_at : List (List Bool) → ℕ → ℕ → List (List Bool)
put_at rows place number = cond (nat_lt place (length rows)) (slice_set rows place (slice_set (get_or rows place []) number true)) rows

-- the types that are below one of these, rising
abbrev pub types_below : Table → List ℕ → List ℕ
types_below table types = filter (λ low. list_any (is_below table low) types) (numbers_below (length table.types))

-- The row of types becomes that of these types more.
abbrev pub Adds : Table → List Bool → List Bool → List ℕ → Type 0
Adds table before after more = (types : List ℕ) → before ≡ row_of table types → after ≡ row_of table (types ++ more)

-- The rows of each type, and of none.
pub record AreTypeRows (table : Table) (rows : List (List Bool)) : Type 0 where
  pub types : (number : ℕ) → number < length table.types → slice_get rows number ≡ Some (row_of table (number ∷ []))
  pub none : slice_get rows (length table.types) ≡ Some (row_of table [])

-- ---- what is remembered

-- What is known of an item: the first refusal from it on, the row of the types that it names, and in fewer than how many steps
-- each way on from it ends, or 0 where that is not known.
pub record IsReached (table : Table) (rows : List (List Bool)) (id : ItemId) (reached : Reached) : Type 0 where
  pub first : reached.first ≡ (walk_from true table id).first
  pub row : slice_get rows reached.row ≡ Some (row_of table (walk_from false table id).types)
  pub deep : 0 < reached.depth → grounded reached.depth table id ≡ true
  pub few : reached.depth < 2 ^ 32

-- The same of a name in the text of a library: of what it means.
pub record IsGathered (table : Table) (rows : List (List Bool)) (text : Scope) (need : Need) (reached : Reached) : Type 0 where
  pub first : reached.first ≡ name_first table text need
  pub row : slice_get rows reached.row ≡ Some (row_of table (name_types table text need))
  pub deep : name_leads_so (grounded reached.depth table) table text need ≡ true
  pub few : reached.depth < 2 ^ 32

-- The same of what a name means, where this was refused of its look-up.
pub record IsOfTarget (table : Table) (rows : List (List Bool)) (need : Need) (target : Option ItemId) (refused : Option Refusal) (reached : Reached) : Type 0 where
  pub first : reached.first ≡ nearer refused (target_first table need target)
  pub row : slice_get rows reached.row ≡ Some (row_of table (target_types table need target))
  pub deep : leads_so (grounded reached.depth table) table need target ≡ true
  pub few : reached.depth < 2 ^ 32

-- What is known of these types and of names, one after the other.
pub record IsSum (table : Table) (text : Scope) (types : List ℕ) (needs : List Need) (sum : Sum) : Type 0 where
  pub first : sum.first ≡ names_first table text needs
  pub row : sum.row ≡ row_of table (types ++ flat_map (name_types table text) needs)
  pub deep : list_all (name_leads_so (grounded sum.depth table) table text) needs ≡ true
  pub few : sum.depth < 2 ^ 32

-- The item is settled, and this is what is remembered of it, after this refusal.
pub record IsSettled (memory : Memory) (id : ItemId) (refused : Option Refusal) (reached : Reached) : Type 0 where
  pub known : Reached
  pub there : get same_pair memory.items (id.«package», id.item) ≡ Some known
  pub deep : 0 < known.depth
  pub is : reached ≡ record { first = nearer refused known.first; row = known.row; depth = known.depth }

-- whether an item, if there is one, declares a type
abbrev pub is_type_item : Option TypeItem → Bool
is_type_item None = false
is_type_item (Some item) = is_type item.kind

-- what is remembered of items is known of them
abbrev pub AreReached : Table → List (List Bool) → (ℕ × ℕ → Option Reached) → Type 0
AreReached table rows known = (key : ℕ × ℕ) (reached : Reached) → known key ≡ Some reached → IsReached table rows (record { «package» = key.0; item = key.1 }) reached

-- What is remembered is right. The rows begin with those of each type and of none.
pub record Remembers (table : Table) (memory : Memory) : Type 0 where
  pub types : AreTypeRows table memory.rows
  pub items : AreReached table memory.rows (get same_pair memory.items)

-- All rows are where they were.
abbrev pub Stay : List (List Bool) → List (List Bool) → Type 0
Stay old new = (number : ℕ) (row : List Bool) → slice_get old number ≡ Some row → slice_get new number ≡ Some row
