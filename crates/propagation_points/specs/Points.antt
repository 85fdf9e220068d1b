-- The points of a component and their sides (EMV2: error propagation points, features and paths).
use Rattle.std.specs.Prelude.{ℕ, Bool, true, false, cond, ◌&&◌, not, List, [], ◌∷◌, ◌++◌, map, flat_map, fold, find, position, slice_get, Option, Some, None, is_none, option_map, option_and_then, codes}
use Rattle.std.specs.Bool.{beq}
use Rattle.std.specs.List.{list_any}
use Rattle.plain_values.specs.Name.{is_same_text}
use Rattle.aadl_syntax.specs.declared.core_model.Feature.{Feature}
use Rattle.aadl_syntax.specs.declared.core_model.FeatureKind.{FeatureKind}
use Rattle.aadl_syntax.specs.declared.core_model.FeatureKind.TheVariants.{Inward, Outward, Both, Access, Group}
use Rattle.aadl_syntax.specs.declared.core_model.PackageUnit.{PackageUnit}
use Rattle.aadl_syntax.specs.declared.error_model.PointItem.{PointItem}
use Rattle.aadl_syntax.specs.declared.error_model.PointRef.{PointRef}
use Rattle.aadl_syntax.specs.declared.error_model.TypeSet.{TypeSet}
use Rattle.aadl_syntax.specs.declared.error_model.UserPoint.{UserPoint}
use Rattle.plain_values.specs.declared.refusal.Code.TheVariants.{FeatureGroup, UnknownPoint}
use Rattle.plain_values.specs.declared.refusal.Refusal.{Refusal}
use Rattle.plain_values.specs.Refusal.{place_of, refusal, refused_so}
use Rattle.package_index.specs.Names.{only}
use Rattle.component_extension.specs.declared.effective.Effective.{Effective}
use Rattle.component_extension.specs.Items.{Clause, Scoped}
use Rattle.component_extension.specs.Members.{Member}
use Rattle.error_libraries.specs.declared.scope.Scope.{Scope}
use Rattle.error_libraries.specs.Libraries.{Table}
use Rattle.error_types.specs.Types.{denoted, text_scope}
use Rattle.propagation_points.specs.declared.side.Side.{Side}
use Rattle.propagation_points.specs.declared.side.Side.TheVariants.{Absent, Free, Declared}

-- ---- points

-- A point of a component: its name, and its two sides.
pub record Point : Type 0 where
  pub name : List ℕ
  pub inward : Side
  pub outward : Side

-- whether a point has the name
abbrev pub has_name : List ℕ → Point → Bool
has_name name point = is_same_text point.name name

-- the place of the point of a name
abbrev pub place_named : List Point → List ℕ → Option ℕ
place_named points name = position (has_name name) points

-- the point of a name
abbrev pub point_named : List Point → List ℕ → Option Point
point_named points name = option_and_then (slice_get points) (place_named points name)

-- the side of a point in a direction
abbrev pub side_of : Bool → Point → Side
side_of outward point = cond outward point.outward point.inward

-- ---- written sets

-- the text in which the items of a clause are read
abbrev pub clause_scope : List PackageUnit → Clause → Scope
clause_scope packages clause = text_scope packages clause.«package» clause.item.uses

-- the texts of clauses
abbrev pub scopes_of : List PackageUnit → List Clause → List Scope
scopes_of packages clauses = map (clause_scope packages) clauses

-- The types that a set denotes in a text. Each item is of a clause, so there always is a text.
abbrev pub types_in : Table → Option Scope → TypeSet → List ℕ
types_in table None set = []
types_in table (Some scope) set = denoted table scope set

-- ---- declared sides

-- whether this is the name
abbrev pub is_text : List ℕ → Option (List ℕ) → Bool
is_text name None = false
is_text name (Some other) = is_same_text other name

-- whether a propagation stands for the point of this name
abbrev pub stands_for : List ℕ → Scoped PointItem → Bool
stands_for name scoped = is_text name (only scoped.item.point.names)

-- whether a propagation declares a set for a direction of the point of this name: one with `not` declares none
abbrev pub declares : Bool → List ℕ → Scoped PointItem → Bool
declares outward name scoped = (beq scoped.item.outward outward && not scoped.item.negative) && stands_for name scoped

-- the types of a propagation
abbrev pub propagated : Table → List Scope → Scoped PointItem → List ℕ
propagated table scopes scoped = types_in table (slice_get scopes scoped.scope) scoped.item.set

-- the types that are declared for a direction of the point of this name, if any are
abbrev pub declared_types : Table → List Scope → List (Scoped PointItem) → Bool → List ℕ → Option (List ℕ)
declared_types table scopes items outward name = option_map (propagated table scopes) (find (declares outward name) items)

-- a side with the types that are declared for it; without such it is free where it is open, and else it is not there
abbrev pub side_with : Bool → Option (List ℕ) → Side
side_with is_open (Some types) = Declared types
side_with true None = Free
side_with false None = Absent

-- ---- what makes points

-- A point before its sets are read: its name, and which of its sides are open.
pub record OpenPoint : Type 0 where
  pub name : List ℕ
  pub inward : Bool
  pub outward : Bool

-- the inward side of a feature is open where data may come in, and that of an access feature always
abbrev pub opens_inward : FeatureKind → Bool
opens_inward Inward = true
opens_inward Outward = false
opens_inward Both = true
opens_inward Access = true
opens_inward Group = false

-- the outward side of a feature is open where data may go out, and that of an access feature always
abbrev pub opens_outward : FeatureKind → Bool
opens_outward Inward = false
opens_outward Outward = true
opens_outward Both = true
opens_outward Access = true
opens_outward Group = false

-- the point of a feature
abbrev pub feature_point : Member Feature → OpenPoint
feature_point member = record {
  name = member.nearest.item.name;
  inward = opens_inward member.nearest.item.kind;
  outward = opens_outward member.nearest.item.kind;
}

-- the point that a clause declares of its own, which is open both ways
abbrev pub user_point : Scoped UserPoint → OpenPoint
user_point scoped = record { name = scoped.item.name; inward = true; outward = true }

-- the words that are points of a component where a propagation stands for them
abbrev pub point_words : List (List ℕ)
point_words = codes "processor" ∷ codes "memory" ∷ codes "connection" ∷ codes "binding" ∷ codes "bindings" ∷ codes "access" ∷ []

-- the point of a word, which is not open, if a propagation stands for it
abbrev pub word_point : List (Scoped PointItem) → List ℕ → List OpenPoint
word_point items word = cond (list_any (stands_for word) items) (record { name = word; inward = false; outward = false } ∷ []) []

-- all that makes points of a component: its features, its own points, and the words
abbrev pub open_points : Effective → List OpenPoint
open_points effective =
    map feature_point effective.members.features
    ++ (map user_point effective.propagations.user_points ++ flat_map (word_point effective.propagations.points) point_words)

-- ---- the points of a component

-- a point with its sides
abbrev pub with_sides : Table → List Scope → List (Scoped PointItem) → OpenPoint → Point
with_sides table scopes items point = record {
  name = point.name;
  inward = side_with point.inward (declared_types table scopes items false point.name);
  outward = side_with point.outward (declared_types table scopes items true point.name);
}

-- items with one more at the end, unless it has a place among them
abbrev pub keep_at : {Item : Type 0} → Option ℕ → List Item → Item → List Item
keep_at None items item = items ++ item ∷ []
keep_at (Some place) items item = items

-- The points with one more at the end. Of two points of one name the first counts.
abbrev pub keep_first : List Point → Point → List Point
keep_first points point = keep_at (place_named points point.name) points point

-- The points of a component, in order: its features, then its own points, then the words for which a propagation stands.
abbrev pub points_of : Table → Effective → List Point
points_of table effective =
    fold keep_first [] (map (with_sides table (scopes_of table.packages effective.clauses) effective.propagations.points) (open_points effective))

-- ---- refusals

-- P3 at a dotted point, and N9 at a name that no point has
abbrev pub fault_at : List Point → PointRef → Option (List ℕ) → List Refusal
fault_at points reference None = refusal FeatureGroup (place_of reference.spot) ∷ []
fault_at points reference (Some name) = refused_so (is_none (place_named points name)) UnknownPoint reference.spot

-- the refusals of a propagation
abbrev pub propagation_refusals : List Point → Scoped PointItem → List Refusal
propagation_refusals points scoped = fault_at points scoped.item.point (only scoped.item.point.names)

-- The refusals of the points of a component: N9 and P3 of its propagations, also of those with `not`.
abbrev pub point_refusals : Table → Effective → List Refusal
point_refusals table effective = flat_map (propagation_refusals (points_of table effective)) effective.propagations.points
