-- The members of a classifier: features, subcomponents and connections (AS5506: refinement).
use Rattle.std.specs.Prelude.{ℕ, Bool, true, false, cond, ◌&&◌, ◌||◌, not, nat_eq, nat_lt, List, [], ◌∷◌, ◌++◌, map, filter, flat_map, fold, Option, Some, None, is_some, option_and_then}
use Rattle.std.specs.Option.{option_or}
use Rattle.std.specs.List.{list_any}
use Rattle.plain_values.specs.Name.{is_same_text}
use Rattle.aadl_syntax.specs.declared.core_model.Connection.{Connection}
use Rattle.aadl_syntax.specs.declared.core_model.ConnectionKind.{ConnectionKind}
use Rattle.aadl_syntax.specs.declared.core_model.ConnectionKind.TheVariants as connection
use Rattle.aadl_syntax.specs.declared.core_model.Decl.{Decl}
use Rattle.aadl_syntax.specs.declared.core_model.Feature.{Feature}
use Rattle.aadl_syntax.specs.declared.core_model.FeatureKind.{FeatureKind}
use Rattle.aadl_syntax.specs.declared.core_model.FeatureKind.TheVariants as feature
use Rattle.aadl_syntax.specs.declared.core_model.Subcomponent.{Subcomponent}
use Rattle.plain_values.specs.declared.spot.Spot.{Spot}
use Rattle.plain_values.specs.declared.refusal.Code.TheVariants.{Array, DuplicateName, FeatureGroup, Prototype, UnknownMember}
use Rattle.plain_values.specs.declared.refusal.Refusal.{Refusal}
use Rattle.plain_values.specs.Refusal.{refused_so, refused_there}
use Rattle.plain_values.specs.Numbered.{numbered_from}
use Rattle.component_extension.specs.Rows.{Key, named, put, row_by}

-- ---- declarations

-- What stands in a package, with the number of the package.
pub record InPackage (Item : Type 0) : Type 0 where
  pub «package» : ℕ
  pub item : Item

-- A classifier of a chain: its package and its declaration.
abbrev pub Class : Type 0
Class = InPackage Decl

-- A kind of member: where a classifier declares such members, and what each declaration states. A subcomponent may state
-- its classifier, and a connection its ends.
pub record Kind (Item : Type 0) : Type 0 where
  pub items : Decl → List Item
  pub name : Item → List ℕ
  pub spot : Item → Spot
  pub is_refined : Item → Bool
  pub array : Item → Option Spot
  pub states : Item → Bool

-- A declaration of a member: in the package, and so many classifiers of the chain are farther.
pub record Declared (Item : Type 0) : Type 0 where
  pub level : ℕ
  pub «package» : ℕ
  pub item : Item

-- the declarations of a classifier at this level
abbrev pub declared_by : {Item : Type 0} → Kind Item → ℕ → Class → List (Declared Item)
declared_by kind level class = map (λ item. record { level = level; «package» = class.«package»; item = item }) (kind.items class.item)

-- The declarations of a chain, from the farthest classifier to the nearest, each in the order of its text.
abbrev pub declarations : {Item : Type 0} → Kind Item → List Class → List (Declared Item)
declarations kind classes = numbered_from (declared_by kind) 0 classes

-- ---- names

-- A name that a classifier declares without `refined to`: at which level, and where.
pub record Mark : Type 0 where
  pub name : List ℕ
  pub level : ℕ
  pub spot : Spot

-- whether a level and a byte come before others: farther, or earlier in the same classifier
abbrev pub is_before : ℕ × ℕ → ℕ → ℕ → Bool
is_before time level at = nat_lt time.0 level || (nat_eq time.0 level && nat_lt time.1 at)

-- whether the mark is that of the name, and comes before this byte of this level
abbrev pub is_earlier : List ℕ → ℕ → ℕ → Mark → Bool
is_earlier name level at mark = is_same_text mark.name name && is_before (mark.level, mark.spot.at) level at

-- the mark of a declaration, where it is not `refined to`
abbrev pub mark_of : {Item : Type 0} → Kind Item → Declared Item → List Mark
mark_of kind declared = cond (kind.is_refined declared.item) [] (record { name = kind.name declared.item; level = declared.level; spot = kind.spot declared.item } ∷ [])

-- the marks of declarations
abbrev pub marks_of : {Item : Type 0} → Kind Item → List (Declared Item) → List Mark
marks_of kind declareds = flat_map (mark_of kind) declareds

-- N6 at each name that an earlier one is, of whatever kind
abbrev pub duplicates : List Mark → List Mark → List Refusal
duplicates all marks = flat_map (λ mark. refused_so (list_any (is_earlier mark.name mark.level mark.spot.at) all) DuplicateName mark.spot) marks

-- whether a farther classifier declares a member of the kind and the name of a declaration
abbrev pub is_declared_farther : {Item : Type 0} → Kind Item → List Mark → Declared Item → Bool
is_declared_farther kind marks declared = list_any (is_earlier (kind.name declared.item) declared.level 0) marks

-- whether an earlier declaration of the kind has the name of a declaration
abbrev pub is_declared_earlier : {Item : Type 0} → Kind Item → List Mark → Declared Item → Bool
is_declared_earlier kind marks declared = list_any (is_earlier (kind.name declared.item) declared.level (kind.spot declared.item).at) marks

-- Whether a declaration makes a member: one that is `refined to` where a farther classifier declares a member of its kind and
-- name, and any other where it is the first of them.
abbrev pub stands : {Item : Type 0} → Kind Item → List Mark → Declared Item → Bool
stands kind marks declared = cond (kind.is_refined declared.item) (is_declared_farther kind marks declared) (not (is_declared_earlier kind marks declared))

-- whether a declaration is `refined to` where there is nothing to refine
abbrev pub refines_nothing : {Item : Type 0} → Kind Item → List Mark → Declared Item → Bool
refines_nothing kind marks declared = kind.is_refined declared.item && not (is_declared_farther kind marks declared)

-- N5 at each declaration that refines nothing
abbrev pub unknown_members : {Item : Type 0} → Kind Item → List Mark → List (Declared Item) → List Refusal
unknown_members kind marks declareds = flat_map (λ declared. refused_so (refines_nothing kind marks declared) UnknownMember (kind.spot declared.item)) declareds

-- ---- members

-- A member: its nearest declaration, the nearest that states a classifier or ends, and the nearest array.
pub record Member (Item : Type 0) : Type 0 where
  pub nearest : Declared Item
  pub stated : Option (Declared Item)
  pub array : Option Spot

-- the key of a member
abbrev pub member_key : {Item : Type 0} → Kind Item → Member Item → Option Key
member_key kind member = Some (named (kind.name member.nearest.item))

-- The member of a declaration, which inherits from the member of its name so far what it does not state.
abbrev pub refined_by : {Item : Type 0} → Kind Item → Option (Member Item) → Declared Item → Member Item
refined_by kind inherited declared = record {
  nearest = declared;
  stated = option_or (cond (kind.states declared.item) (Some declared) None) (option_and_then (λ member. member.stated) inherited);
  array = option_or (kind.array declared.item) (option_and_then (λ member. member.array) inherited);
}

-- the members with one declaration more
abbrev pub declare : {Item : Type 0} → Kind Item → List (Member Item) → Declared Item → List (Member Item)
declare kind members declared =
    put (member_key kind) members (refined_by kind (row_by (member_key kind) members (named (kind.name declared.item))) declared)

-- The members of a kind, from the declarations that make members: a new one goes last, and one that is `refined to`
-- replaces that of its name at its place.
abbrev pub members_of : {Item : Type 0} → Kind Item → List Mark → List (Declared Item) → List (Member Item)
members_of kind marks declareds = fold (declare kind) [] (filter (stands kind marks) declareds)

-- ---- the kinds

abbrev pub features : Kind Feature
features = record {
  items = λ decl. decl.features;
  name = λ feature. feature.name;
  spot = λ feature. feature.spot;
  is_refined = λ feature. feature.refined;
  array = λ feature. feature.array;
  states = λ feature. false;
}

abbrev pub subcomponents : Kind Subcomponent
subcomponents = record {
  items = λ decl. decl.subcomponents;
  name = λ subcomponent. subcomponent.name;
  spot = λ subcomponent. subcomponent.spot;
  is_refined = λ subcomponent. subcomponent.refined;
  array = λ subcomponent. subcomponent.array;
  states = λ subcomponent. is_some subcomponent.classifier;
}

abbrev pub connections : Kind Connection
connections = record {
  items = λ decl. decl.connections;
  name = λ connection. connection.name;
  spot = λ connection. connection.spot;
  is_refined = λ connection. connection.refined;
  array = λ connection. None;
  states = λ connection. is_some connection.ends;
}

abbrev pub is_feature_group : FeatureKind → Bool
is_feature_group feature.Group = true
is_feature_group feature.Inward = false
is_feature_group feature.Outward = false
is_feature_group feature.Both = false
is_feature_group feature.Access = false

abbrev pub is_group_connection : ConnectionKind → Bool
is_group_connection connection.Group = true
is_group_connection connection.Plain = false
is_group_connection connection.Access = false

-- P2 at an array of a feature, and P3 at a feature group
abbrev pub feature_limits : Member Feature → List Refusal
feature_limits member = refused_there Array member.array ++ refused_so (is_feature_group member.nearest.item.kind) FeatureGroup member.nearest.item.spot

-- P2 at an array of subcomponents, and P1 at bindings of its classifier
abbrev pub subcomponent_limits : Member Subcomponent → List Refusal
subcomponent_limits member = refused_there Array member.array ++ refused_there Prototype (option_and_then (λ declared. declared.item.binds) member.stated)

-- P3 at a connection of feature groups
abbrev pub connection_limits : Member Connection → List Refusal
connection_limits member = refused_so (is_group_connection member.nearest.item.kind) FeatureGroup member.nearest.item.spot

-- ---- the group

-- the members of a kind along a chain, farthest classifier first
abbrev pub members_along : {Item : Type 0} → Kind Item → List Class → List (Member Item)
members_along kind classes = members_of kind (marks_of kind (declarations kind classes)) (declarations kind classes)

-- N5 and the limits of the members of a kind
abbrev pub refusals_of : {Item : Type 0} → Kind Item → (Member Item → List Refusal) → List Class → List Refusal
refusals_of kind limits classes =
    unknown_members kind (marks_of kind (declarations kind classes)) (declarations kind classes) ++ flat_map limits (members_along kind classes)

-- the names of a kind that a chain declares without `refined to`
abbrev pub marks_along : {Item : Type 0} → Kind Item → List Class → List Mark
marks_along kind classes = marks_of kind (declarations kind classes)

-- the names of all kinds that a chain declares without `refined to`
abbrev pub all_marks : List Class → List Mark
all_marks classes = (marks_along features classes ++ marks_along subcomponents classes) ++ marks_along connections classes

-- The refusals of the members of a chain, farthest classifier first, are one group: N5, N6, P1 of bindings, P2 and P3.
abbrev pub member_refusals : List Class → List Refusal
member_refusals classes =
    refusals_of features feature_limits classes
    ++ (refusals_of subcomponents subcomponent_limits classes ++ (refusals_of connections connection_limits classes ++ duplicates (all_marks classes) (all_marks classes)))
