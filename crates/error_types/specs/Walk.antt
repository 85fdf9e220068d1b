-- What the names of a written set lead to: the types that they name, and what is refused on the way.
use Rattle.std.specs.Prelude.{ℕ, zero, suc, ◌^◌, Bool, true, false, cond, ◌&&◌, List, [], ◌∷◌, ◌++◌, map, flat_map, fold, Option, Some, None, option_to_list}
use Rattle.plain_values.specs.Order.{least, nearer}
use Rattle.aadl_syntax.specs.declared.error_model.Term.{Term}
use Rattle.aadl_syntax.specs.declared.error_model.Term.TheVariants.{NoError, One, Product}
use Rattle.aadl_syntax.specs.declared.error_model.TypeItem.{TypeItem}
use Rattle.aadl_syntax.specs.declared.error_model.TypeKind.{TypeKind}
use Rattle.aadl_syntax.specs.declared.error_model.TypeKind.TheVariants.{Plain, Alias, Set, SetAlias}
use Rattle.aadl_syntax.specs.declared.error_model.TypeSet.{TypeSet}
use Rattle.aadl_syntax.specs.declared.place.Ref.{Ref}
use Rattle.plain_values.specs.declared.refusal.Code.TheVariants.{CyclicType, TypeProduct, UnknownType}
use Rattle.plain_values.specs.declared.refusal.Refusal.{Refusal}
use Rattle.plain_values.specs.Refusal.{place_of, refusal}
use Rattle.error_libraries.specs.declared.id.ItemId.{ItemId}
use Rattle.error_libraries.specs.declared.scope.Scope.{Scope}
use Rattle.error_libraries.specs.Libraries.{Table, is_item_in, is_set, item_at, library_scope, number_of}
use Rattle.error_libraries.specs.Search.{named}

-- ---- what an item names

-- A name that an item states, and whether it must be that of a type.
pub record Need : Type 0 where
  pub of_type : Bool
  pub reference : Ref

-- the name of a term
abbrev pub need_of_term : Term → List Need
need_of_term (NoError spot) = []
need_of_term (One reference) = record { of_type = false; reference = reference } ∷ []
need_of_term (Product spot) = []

-- the name of the type that a type extends, where a walk goes on from types to those
abbrev pub base_needs : Bool → Option Ref → List Need
base_needs false base = []
base_needs true base = map (λ reference. record { of_type = true; reference = reference }) (option_to_list base)

-- The names of an item: what a type extends and what an alias of a type renames must be types. A walk may leave out what types
-- extend.
abbrev pub needs_of : Bool → TypeKind → List Need
needs_of through (Plain base) = base_needs through base
needs_of through (Alias target) = record { of_type = true; reference = target } ∷ []
needs_of through (Set set) = flat_map need_of_term set.terms
needs_of through (SetAlias target) = record { of_type = false; reference = target } ∷ []

-- P4 at a product of types
abbrev pub product_of_term : Term → List Refusal
product_of_term (NoError spot) = []
product_of_term (One reference) = []
product_of_term (Product spot) = refusal TypeProduct (place_of spot) ∷ []

-- P4 at each product of a set
abbrev pub products_of : TypeKind → List Refusal
products_of (Plain base) = []
products_of (Alias target) = []
products_of (Set set) = flat_map product_of_term set.terms
products_of (SetAlias target) = []

-- what the kind of an item gives, if there is the item
abbrev pub of_item : {Part : Type 0} → (TypeKind → List Part) → Option TypeItem → List Part
of_item part None = []
of_item part (Some item) = part item.kind

-- whether an item, if there is one, is a set or an alias of one
abbrev pub is_set_item : Option TypeItem → Bool
is_set_item None = false
is_set_item (Some item) = is_set item.kind

-- ---- the walk

-- A walk so far: the items that it followed to their end, the types that it gathered, and the first refusal.
pub record Walk : Type 0 where
  pub followed : List ItemId
  pub types : List ℕ
  pub first : Option Refusal

-- the number of the type that an item is; a walk that goes on to what types extend gathers none
abbrev pub number_met : Bool → Table → ItemId → Option ℕ
number_met true table id = None
number_met false table id = number_of table id

-- the walk once it is at an item
abbrev pub at_item : Bool → Table → Walk → ItemId → Walk
at_item through table walk id = record {
  followed = walk.followed;
  types = walk.types ++ option_to_list (number_met through table id);
  first = nearer walk.first (least (of_item products_of (item_at table.libraries id)));
}

-- the walk once it followed an item to its end
abbrev pub past_item : ItemId → Walk → Walk
past_item id walk = record { followed = walk.followed ++ id ∷ []; types = walk.types; first = walk.first }

-- the walk with a further refusal, if there is one
abbrev pub with_fault : Walk → Option Refusal → Walk
with_fault walk fault = record { followed = walk.followed; types = walk.types; first = nearer walk.first fault }

-- The walk goes on to what a name means: N7 where it must be a type and is a set, N8 where it is an item on the way, both at
-- the name. An item that was followed to its end is passed by.
abbrev pub arrived : (Walk → ItemId → Walk) → Table → List ItemId → Need → Walk → Option ItemId → Walk
arrived follow table way need walk None = walk
arrived follow table way need walk (Some id) =
    cond (need.of_type && is_set_item (item_at table.libraries id)) (with_fault walk (Some (refusal UnknownType (place_of need.reference.spot))))
    (cond (is_item_in walk.followed id) walk
    (cond (is_item_in way id) (with_fault walk (Some (refusal CyclicType (place_of need.reference.spot)))) (follow walk id)))

-- the walk goes on to a name in a text
abbrev pub walked : (Walk → ItemId → Walk) → Table → List ItemId → Scope → Walk → Need → Walk
walked follow table way scope walk need =
    arrived follow table way need (with_fault walk (named table scope need.reference).first) (named table scope need.reference).target

-- The walk through an item, in at most so many steps, depth first in the order of the text; `through` tells whether it goes on
-- from a type to the one that this extends. `way` are the items that are being followed.
unfoldable pub follow : ℕ → Bool → Table → List ItemId → Walk → ItemId → Walk
follow zero through table way walk id = walk
follow (suc steps) through table way walk id =
    past_item id (fold (walked (follow steps through table (id ∷ way)) table (id ∷ way) (library_scope table id.«package»)) (at_item through table walk id) (of_item (needs_of through) (item_at table.libraries id)))

-- nothing is walked yet
abbrev pub no_walk : Walk
no_walk = record { followed = []; types = []; first = None }

-- The walk through an item. No index has as many as 2^64 items, so it always comes to its end.
abbrev pub walk_from : Bool → Table → ItemId → Walk
walk_from through table id = follow (2 ^ 64) through table [] no_walk id

-- ---- written sets

-- the walk through what a name means
abbrev pub reached : Bool → Table → Option ItemId → Walk
reached through table None = no_walk
reached through table (Some id) = walk_from through table id

-- The types that a term of a written set names, by itself or through aliases and sets, but not by what types extend. Its name
-- begins a walk of its own.
abbrev pub term_types : Table → Scope → Term → List ℕ
term_types table scope (NoError spot) = []
term_types table scope (One reference) = (reached false table (named table scope reference).target).types
term_types table scope (Product spot) = []

-- the first refusal of a term, also of what types extend
abbrev pub term_first : Table → Scope → Term → Option Refusal
term_first table scope (NoError spot) = None
term_first table scope (One reference) = nearer (named table scope reference).first (reached true table (named table scope reference).target).first
term_first table scope (Product spot) = Some (refusal TypeProduct (place_of spot))

-- the types that a written set names
abbrev pub set_types : Table → Scope → TypeSet → List ℕ
set_types table scope set = flat_map (term_types table scope) set.terms

-- the first refusal of terms
abbrev pub terms_first : Table → Scope → List Term → Option Refusal
terms_first table scope [] = None
terms_first table scope (term ∷ terms) = nearer (term_first table scope term) (terms_first table scope terms)

-- The first refusal of a written set: N2, N7, N8 and P4 of its terms.
abbrev pub set_first : Table → Scope → TypeSet → Option Refusal
set_first table scope set = terms_first table scope set.terms
