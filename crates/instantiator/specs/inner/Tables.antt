-- What the tables of an instance know.
use Rattle.std.specs.Prelude.{◌≡◌, ◌≤◌, ℕ, Bool, true, ◌&&◌, ◌++◌, nat_eq, List, [], ◌∷◌, Option, None, option_and_then, slice_get, Result, length, map}
use denote.Ref.{Bor}
use Rattle.aadl_syntax.specs.declared.core_model.PackageUnit.{PackageUnit}
use Rattle.plain_values.specs.declared.refusal.Refusal.{Refusal}
use Rattle.package_index.specs.declared.id.ClassifierId.{ClassifierId}
use Rattle.package_index.specs.inner.Tables.{same_text}
use Rattle.component_extension.specs.Chain.{is_among}
use Rattle.component_extension.specs.Items.{classifier_refusals}
use Rattle.instantiator.specs.declared.draft.Draft.{Draft}
use Rattle.instantiator.specs.declared.kinds.Kind.{Kind}
use Rattle.instantiator.specs.declared.occurrence.Occurrence.{Occurrence}
use Rattle.instantiator.specs.declared.path.Component.{Component}
use Rattle.instantiator.specs.Components.{component_below, component_of, found}
use Rattle.instantiator.specs.Effectives.{effective_of}
use Rattle.instantiator.specs.Refused.{classifier_refusal, first_refusal}
use Rattle.instantiator.specs.Whole.{kind_place, kinds_of, with_kind}
use Rattle.instantiator.specs.inner.Whole.{Kinds, ParentsComeFirst, PathsDiffer, with_kinds}

-- The key of a component: the number of the component of which it is a subcomponent, and its name.
abbrev pub StepKey : Type 0
StepKey = ℕ × Bor (List ℕ)

-- whether two such keys are the same
abbrev pub same_step : StepKey → StepKey → Bool
same_step a b = nat_eq a.0 b.0 && same_text a.1 b.1

-- The table gives each component and each name of a subcomponent the number of that.
abbrev pub KnowsSteps : List Component → (StepKey → Option ℕ) → Type 0
KnowsSteps components table = (key : StepKey) → table key ≡ component_below components key.0 (key.1.now ∷ [])

-- No two of these components have one path, each stands behind that of which it is a subcomponent, and the table knows them.
pub record IsTree (components : List Component) (table : StepKey → Option ℕ) : Type 0 where
  pub differ : PathsDiffer components
  pub behind : ParentsComeFirst components
  pub known : KnowsSteps components table

-- These are the components of an instance with their table, and the classifiers that they have; there are at most 4,096.
pub record IsInstance (components : List Component) (ids : List ClassifierId) (table : StepKey → Option ℕ) : Type 0 where
  pub tree : IsTree components table
  pub kinds : ids ≡ kinds_of components
  pub few : length components ≤ 4096

-- The table gives each classifier its place among the kinds.
abbrev pub KnowsKinds : List ClassifierId → (ℕ × ℕ → Option ℕ) → Type 0
KnowsKinds kinds table = (id : ClassifierId) → table (id.«package», id.decl) ≡ kind_place kinds id

-- the kind of a classifier, with its effective classifier
abbrev pub kind_of : List PackageUnit → ClassifierId → Kind
kind_of packages id = record { classifier = id; effective = effective_of packages id }

-- The classifiers of the kinds have these effective classifiers, nothing is refused of them, and the table knows them.
pub record AreKinds (packages : List PackageUnit) (kinds : List Kind) (table : ℕ × ℕ → Option ℕ) : Type 0 where
  pub effective : kinds ≡ map (kind_of packages) (map (λ kind. kind.classifier) kinds)
  pub known : KnowsKinds (map (λ kind. kind.classifier) kinds) table
  pub accepted : (id : ClassifierId) → is_among (map (λ kind. kind.classifier) kinds) id ≡ true → classifier_refusals packages id ≡ []

-- The kind of a classifier that may be none, which has this number, is among the kinds now, and nothing is refused of it.
pub record Entered (before after : Kinds) (classifier : Result (Option ClassifierId) Refusal) (kind : Option ℕ) : Type 0 where
  pub kinds : after ≡ record before { ids = with_kind before.ids (found classifier) }
  pub number : option_and_then (slice_get after.ids) kind ≡ found classifier
  pub accepted : classifier_refusal before.packages classifier ≡ None

-- The components that are made are those before and then these, of which nothing is refused, and so are the kinds.
pub record Grown (before after : Draft) (all : List Occurrence) : Type 0 where
  pub components : after.components ≡ before.components ++ map component_of all
  pub kinds : after.kinds ≡ with_kinds before.kinds (map component_of all)
  pub accepted : first_refusal before.kinds.packages (length before.components) all ≡ None

-- A component is added, whose kind has this number; it is not too deep.
pub record Added (before after : Draft) (one : Occurrence) (kind : Option ℕ) : Type 0 where
  pub grown : Grown before after (one ∷ [])
  pub short : length one.path ≤ 32
  pub number : option_and_then (slice_get after.kinds.ids) kind ≡ found one.classifier
