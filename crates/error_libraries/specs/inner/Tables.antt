-- What the tables of a library know.
use Rattle.std.specs.Prelude.{◌≡◌, ℕ, ◌&&◌, Bool, true, List, nat_eq, Option, IsSome}
use Rattle.std.specs.List.{list_any}
use denote.Ref.{Bor}
use Rattle.aadl_syntax.specs.declared.error_model.TypeItem.{TypeItem}
use Rattle.error_libraries.specs.declared.id.ItemId.{ItemId}
use Rattle.error_libraries.specs.Libraries.{has_item_name, is_type_named}

-- whether an item has the name
abbrev pub has_item_text : Bor (List ℕ) → TypeItem → Bool
has_item_text name item = has_item_name name.now item

-- whether an item declares a type of the name
abbrev pub has_type_text : Bor (List ℕ) → TypeItem → Bool
has_type_text name item = is_type_named name.now item

-- whether an item has these numbers, of its package and of its place
abbrev pub has_number : ℕ × ℕ → ItemId → Bool
has_number numbers id = nat_eq id.«package» numbers.0 && nat_eq id.item numbers.1

-- What is marked is one of these items.
abbrev pub AreAmong : List ItemId → (ℕ × ℕ → Option Bool) → Type 0
AreAmong ids marks = (numbers : ℕ × ℕ) → IsSome (marks numbers) → list_any (has_number numbers) ids ≡ true
