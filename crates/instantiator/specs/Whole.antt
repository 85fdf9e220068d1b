-- An instance as a whole: its components, and the classifiers that they have.
use Rattle.std.specs.Prelude.{ℕ, cond, List, [], ◌∷◌, ◌++◌, fold, position, slice_get, Option, Some, None, option_and_then}
use Rattle.aadl_syntax.specs.declared.core_model.PackageUnit.{PackageUnit}
use Rattle.package_index.specs.declared.id.ClassifierId.{ClassifierId}
use Rattle.component_extension.specs.Chain.{is_among, same_id}
use Rattle.component_extension.specs.declared.effective.Effective.{Effective}
use Rattle.instantiator.specs.declared.path.Component.{Component}
use Rattle.instantiator.specs.Components.{components_of}
use Rattle.instantiator.specs.Effectives.{effective_at}

-- ---- kinds

-- the kinds with that of one component more, unless it is among them or there is none
abbrev pub with_kind : List ClassifierId → Option ClassifierId → List ClassifierId
with_kind kinds None = kinds
with_kind kinds (Some id) = cond (is_among kinds id) kinds (kinds ++ id ∷ [])

-- The kinds of components: their classifiers, each once, in the order in which they first come.
abbrev pub kinds_of : List Component → List ClassifierId
kinds_of components = fold (λ kinds component. with_kind kinds component.classifier) [] components

-- the number of the kind of a classifier: its place, from 0
abbrev pub kind_place : List ClassifierId → ClassifierId → Option ℕ
kind_place kinds id = position (λ kind. same_id kind id) kinds

-- the number of the kind of a component, if it has a classifier
abbrev pub kind_number : List ClassifierId → Option ClassifierId → Option ℕ
kind_number kinds classifier = option_and_then (kind_place kinds) classifier

-- ---- instances

-- An instance: the packages of which it is made, its components in preorder, and their kinds.
pub record Instance : Type 0 where
  pub packages : List PackageUnit
  pub components : List Component
  pub kinds : List ClassifierId

-- The instance of a root.
abbrev pub instance_of : List PackageUnit → ClassifierId → Instance
instance_of packages root = record {
  packages = packages;
  components = components_of packages root;
  kinds = kinds_of (components_of packages root);
}

-- the classifier of the component of a number, if there is such a component and it has one
abbrev pub classifier_at : Instance → ℕ → Option ClassifierId
classifier_at instance number = option_and_then (λ component. component.classifier) (slice_get instance.components number)

-- the effective classifier of the component of a number, with nothing at all where it has none
abbrev pub effective_in : Instance → ℕ → Effective
effective_in instance number = effective_at instance.packages (classifier_at instance number)
