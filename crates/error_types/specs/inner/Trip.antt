-- A walk through items that is under way, without recursion: what is left of it.
use Rattle.std.specs.Prelude.{◌≡◌, ℕ, ◌+◌, ◌-◌, ◌^◌, List, [], ◌∷◌, ◌++◌, Bool, length, map, fold, Option, Some, option_to_list}
use Rattle.plain_values.specs.Order.{nearer}
use Rattle.plain_values.specs.declared.refusal.Refusal.{Refusal}
use Rattle.error_libraries.specs.declared.id.ItemId.{ItemId}
use Rattle.error_libraries.specs.inner.Course.{Marks}
use Rattle.error_libraries.specs.Libraries.{Table, library_scope}
use Rattle.error_libraries.specs.inner.Tables.{has_number}
use Rattle.error_types.specs.Walk.{Need, Walk, arrived, follow, past_item, walked}
use Rattle.std.specs.List.{list_any}

-- An item that is being followed, and those of its names that are left.
pub record Visit : Type 0 where
  pub item : ItemId
  pub rest : List Need

-- A walk under way: the item that is being followed and those that led to it, the nearest first; those that were followed to
-- their end, the types that were met, and the first refusal so far.
pub record Trip : Type 0 where
  pub top : Visit
  pub below : List Visit
  pub followed : List ItemId
  pub types : List ℕ
  pub first : Option Refusal

-- the items that are being followed
abbrev pub items_on : List Visit → List ItemId
items_on visits = map (λ visit. visit.item) visits

-- the walk once what is left of these items was walked
abbrev pub walked_out : Bool → Table → List Visit → Walk → Walk
walked_out through table [] walk = walk
walked_out through table (visit ∷ below) walk =
    walked_out through table below
    (past_item visit.item (fold (walked (follow (2 ^ 64 - (length below + 1)) through table (items_on (visit ∷ below))) table (items_on (visit ∷ below)) (library_scope table visit.item.«package»)) walk visit.rest))

-- the walk so far
abbrev pub walk_so_far : Trip → Walk
walk_so_far trip = record { followed = trip.followed; types = trip.types; first = trip.first }

-- what the walk comes to
abbrev pub walk_left : Bool → Table → Trip → Walk
walk_left through table trip = walked_out through table (trip.top ∷ trip.below) (walk_so_far trip)

-- the table of a trip
abbrev pub IsTripMarked : Trip → (ℕ × ℕ → Option Bool) → Type 0
IsTripMarked trip table = Marks (λ key. list_any (has_number key) trip.followed) (λ key. list_any (has_number key) (items_on (trip.top ∷ trip.below))) table

-- ---- steps

-- the trip with other names left at its top
abbrev pub with_names : List Need → Trip → Trip
with_names rest trip = record { top = record { item = trip.top.item; rest = rest }; below = trip.below; followed = trip.followed; types = trip.types; first = trip.first }

-- the trip with a further refusal, if there is one
abbrev pub noting : Option Refusal → Trip → Trip
noting refusal trip = record { top = trip.top; below = trip.below; followed = trip.followed; types = trip.types; first = nearer trip.first refusal }

-- the trip once it entered an item, which is this type and has these names
abbrev pub at_visit : Trip → ItemId → List Need → Option ℕ → Option Refusal → Trip
at_visit trip id rest type refusal = record {
  top = record { item = id; rest = rest };
  below = trip.top ∷ trip.below;
  followed = trip.followed;
  types = trip.types ++ option_to_list type;
  first = nearer trip.first refusal;
}

-- The item at the top was followed to its end, and the walk goes back to the one that led to it.
pub record IsBackAt (trip next : Trip) : Type 0 where
  pub below : trip.below ≡ next.top ∷ next.below
  pub followed : next.followed ≡ trip.followed ++ trip.top.item ∷ []
  pub types : next.types ≡ trip.types
  pub first : next.first ≡ trip.first

-- what the walk comes to once it goes on to the item that a name means, and then to the names that are left
abbrev pub arrival : Bool → Table → Need → Trip → ItemId → Walk
arrival through table need trip id =
    walked_out through table trip.below
    (past_item trip.top.item
    (fold (walked (follow (2 ^ 64 - (length trip.below + 1)) through table (items_on (trip.top ∷ trip.below))) table (items_on (trip.top ∷ trip.below)) (library_scope table trip.top.item.«package»))
    (arrived (follow (2 ^ 64 - (length trip.below + 1)) through table (items_on (trip.top ∷ trip.below))) table (items_on (trip.top ∷ trip.below)) need (walk_so_far trip) (Some id)) trip.top.rest))
