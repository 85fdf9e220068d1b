-- The components of an instance (AS5506: the system instance), in preorder.
use Rattle.std.specs.Prelude.{ℕ, zero, suc, List, [], ◌∷◌, ◌++◌, map, flat_map, position, slice_get, Option, Some, None, option_and_then, Result, Ok, Err}
use Rattle.aadl_syntax.specs.declared.core_model.PackageUnit.{PackageUnit}
use Rattle.aadl_syntax.specs.declared.core_model.Subcomponent.{Subcomponent}
use Rattle.aadl_syntax.specs.declared.place.Ref.{Ref}
use Rattle.plain_values.specs.declared.refusal.Place.{Place}
use Rattle.plain_values.specs.declared.refusal.Place.TheVariants.{Words}
use Rattle.plain_values.specs.declared.refusal.Refusal.{Refusal}
use Rattle.package_index.specs.declared.id.ClassifierId.{ClassifierId}
use Rattle.package_index.specs.Lookup.{look_classifier, refused_at}
use Rattle.plain_values.specs.Refusal.{place_of}
use Rattle.package_index.specs.Names.{is_same_name}
use Rattle.component_extension.specs.declared.effective.Effective.{Effective}
use Rattle.component_extension.specs.Chain.{then_so}
use Rattle.component_extension.specs.Members.{Declared, Member}
use Rattle.instantiator.specs.declared.occurrence.Occurrence.{Occurrence}
use Rattle.instantiator.specs.declared.path.Component.{Component}
use Rattle.instantiator.specs.Effectives.{effective_at}

-- ---- subcomponents

-- A subcomponent of a component: its name, where that stands in the nearest declaration, and its classifier, which it may
-- lack, or the refusal of its classifier's name.
pub record Part : Type 0 where
  pub name : List ℕ
  pub place : Place
  pub classifier : Result (Option ClassifierId) Refusal

-- what the name of a classifier means in a package, if there is one: N2 or N3 at the name where it means none
abbrev pub meant : List PackageUnit → ℕ → Option Ref → Result (Option ClassifierId) Refusal
meant packages home None = Ok None
meant packages home (Some reference) =
    then_so (refused_at (place_of reference.spot) (look_classifier packages (Some home) reference.names reference.item)) (λ id. Ok (Some id))

-- The classifier of a subcomponent: that which its nearest declaration with one names, looked up in the package of this
-- declaration.
abbrev pub stated_by : List PackageUnit → Option (Declared Subcomponent) → Result (Option ClassifierId) Refusal
stated_by packages None = Ok None
stated_by packages (Some declared) = meant packages declared.«package» declared.item.classifier

-- the subcomponent that a member makes
abbrev pub part_of : List PackageUnit → Member Subcomponent → Part
part_of packages member = record {
  name = member.nearest.item.name;
  place = place_of member.nearest.item.spot;
  classifier = stated_by packages member.stated;
}

-- the subcomponents of an effective classifier, in order
abbrev pub parts_of : List PackageUnit → Effective → List Part
parts_of packages effective = map (part_of packages) effective.members.subcomponents

-- ---- occurrences

-- An occurrence is a component as the text gives it: its path, which is the names after `root`, where the last of them
-- stands, and its classifier, which it may lack, or the refusal of its classifier's name. The root stands in the words.

-- a subcomponent of the component of this path
abbrev pub occurrence_of : List (List ℕ) → Part → Occurrence
occurrence_of path part = record { path = path ++ part.name ∷ []; place = part.place; classifier = part.classifier }

-- the classifier, or none where its name is refused
abbrev pub found : Result (Option ClassifierId) Refusal → Option ClassifierId
found (Ok classifier) = classifier
found (Err refusal) = None

-- the subcomponents of a component
abbrev pub occurrences_in : List PackageUnit → Occurrence → List Occurrence
occurrences_in packages one = map (occurrence_of one.path) (parts_of packages (effective_at packages (found one.classifier)))

-- A component and all that is below it, in preorder: each component comes before its subcomponents, and these are in order,
-- each with all that is below it. Of this the first so many levels.
unfoldable pub preorder : ℕ → List PackageUnit → Occurrence → List Occurrence
preorder zero packages one = []
preorder (suc levels) packages one = one ∷ flat_map (preorder levels packages) (occurrences_in packages one)

-- the root, of this classifier
abbrev pub root_of : ClassifierId → Occurrence
root_of id = record { path = []; place = Words; classifier = Ok (Some id) }

-- The components from a root on, as the text gives them. The root, 32 names below it and one more are 34 levels: where
-- there is anything below these, a component with 33 names is refused.
abbrev pub occurrences_of : List PackageUnit → ClassifierId → List Occurrence
occurrences_of packages root = preorder 34 packages (root_of root)

-- ---- components

-- the component that occurs, with its classifier if it has one
abbrev pub component_of : Occurrence → Component
component_of one = record { path = one.path; classifier = found one.classifier }

-- The components of the instance of a root, in preorder.
abbrev pub components_of : List PackageUnit → ClassifierId → List Component
components_of packages root = map component_of (occurrences_of packages root)

-- The number of the component of a path: its place, from 0.
abbrev pub component_at : List Component → List (List ℕ) → Option ℕ
component_at components path = position (λ component. is_same_name component.path path) components

-- The number of the component that these names lead to from the component of a number.
abbrev pub component_below : List Component → ℕ → List (List ℕ) → Option ℕ
component_below components number names = option_and_then (λ component. component_at components (component.path ++ names)) (slice_get components number)
