-- Items that lead back to none on the way: what they name, and what is refused, with no walk through what they lead to.
use Rattle.std.specs.Prelude.{ℕ, zero, suc, Bool, true, false, cond, ◌&&◌, ◌||◌, List, [], ◌∷◌, Option, Some, None}
use Rattle.std.specs.List.{list_all}
use Rattle.plain_values.specs.Order.{nearer}
use Rattle.plain_values.specs.declared.refusal.Code.TheVariants.{UnknownType}
use Rattle.plain_values.specs.declared.refusal.Refusal.{Refusal}
use Rattle.plain_values.specs.Refusal.{place_of, refusal}
use Rattle.error_libraries.specs.declared.id.ItemId.{ItemId}
use Rattle.error_libraries.specs.declared.scope.Scope.{Scope}
use Rattle.error_libraries.specs.Libraries.{Table, item_at, library_scope}
use Rattle.error_libraries.specs.Search.{named}
use Rattle.error_types.specs.Walk.{Need, is_set_item, needs_of, of_item, walk_from}

-- whether a walk goes no further than to an item: it is a set where a type is asked for
abbrev pub is_stopped : Table → Need → ItemId → Bool
is_stopped table need id = need.of_type && is_set_item (item_at table.libraries id)

-- whether what a name means, if it is anything, is so, where a walk goes on to it
abbrev pub leads_so : (ItemId → Bool) → Table → Need → Option ItemId → Bool
leads_so is_so table need None = true
leads_so is_so table need (Some id) = is_stopped table need id || is_so id

-- the same of a name in a text
abbrev pub name_leads_so : (ItemId → Bool) → Table → Scope → Need → Bool
name_leads_so is_so table scope need = leads_so is_so table need (named table scope need.reference).target

-- Whether each way on from an item ends, in fewer than so many steps.
unfoldable pub grounded : ℕ → Table → ItemId → Bool
grounded zero table id = false
grounded (suc steps) table id = list_all (name_leads_so (grounded steps table) table (library_scope table id.«package»)) (of_item (needs_of true) (item_at table.libraries id))

-- ---- what is refused

-- the first refusal from what a name means on
abbrev pub target_first : Table → Need → Option ItemId → Option Refusal
target_first table need None = None
target_first table need (Some id) = cond (is_stopped table need id) (Some (refusal UnknownType (place_of need.reference.spot))) (walk_from true table id).first

-- the first refusal from a name on
abbrev pub name_first : Table → Scope → Need → Option Refusal
name_first table scope need = nearer (named table scope need.reference).first (target_first table need (named table scope need.reference).target)

-- the first refusal from names on
abbrev pub names_first : Table → Scope → List Need → Option Refusal
names_first table scope [] = None
names_first table scope (need ∷ needs) = nearer (name_first table scope need) (names_first table scope needs)

-- ---- what is named

-- the types that are reached from what a name means
abbrev pub target_types : Table → Need → Option ItemId → List ℕ
target_types table need None = []
target_types table need (Some id) = cond (is_stopped table need id) [] (walk_from false table id).types

-- the types that are reached from a name
abbrev pub name_types : Table → Scope → Need → List ℕ
name_types table scope need = target_types table need (named table scope need.reference).target
