-- Beside specs/Laws.antt: what no clause of `run` reaches.
use Rattle.std.specs.Prelude.{◌≡◌, ℕ, List, Some}
use Rattle.std.specs.List.{AllByRecursion}
use Rattle.plain_values.specs.Order.{IsClear}
use Rattle.aadl_syntax.specs.inner.Token.{IsIdentifier}
use Rattle.profiles.specs.declared.profile.Profile.{Profile}
use Rattle.aadl_syntax.specs.declared.core_model.PackageUnit.{PackageUnit}
use Rattle.package_index.specs.declared.id.ClassifierId.{ClassifierId}
use Rattle.package_index.specs.Duplicates.{IsDuplicate}
use Rattle.error_libraries.specs.Printed.{TypeName, name_of}
use Rattle.error_libraries.specs.inner.Printed.{AreIdentifiers}
use Rattle.propagation_points.specs.inner.Points.{NamesDiffer}
use Rattle.propagation_points.specs.States.{all_variants}
use Rattle.error_flows.specs.declared.meaning.FlowMeaning.{FlowMeaning}
use Rattle.error_flows.specs.declared.meaning.FlowMeaning.TheVariants as flow
use Rattle.error_models.specs.declared.model.ErrorModel.{ErrorModel}
use Rattle.model_facts.specs.Assembly.{Assembly, assembly_of, universe_of}
use Rattle.model_facts.specs.Facts.{events_of, facts_of}
use Rattle.model_facts.specs.Names.{event_name, fact_name}
use Rattle.model_facts.specs.declared.keys.EventKey.{EventKey}
use Rattle.model_facts.specs.declared.keys.FactKey.{FactKey}
use Rattle.model_facts.specs.Laws.{IsPlain}

-- ---- identifiers

-- the name of a flow is an identifier, where it is a source without a state
abbrev pub IsNamedFlow : FlowMeaning → Type 0
IsNamedFlow (flow.Event name reached) = IsIdentifier name
IsNamedFlow (flow.State state reached) = Unit {0}
IsNamedFlow (flow.Carry start point) = Unit {0}
IsNamedFlow (flow.Change start point types) = Unit {0}

-- The names of a model are identifiers: those of its points, its states, its events, and its sources without a state.
pub record IsNamed (model : ErrorModel) : Type 0 where
  pub points : AllByRecursion (λ point. IsIdentifier point.name) model.points
  pub states : AllByRecursion (λ variant. IsIdentifier variant.name) (all_variants model.states.sorts)
  pub events : AllByRecursion (λ variant. IsIdentifier variant.name) (all_variants model.behavior.events)
  pub flows : AllByRecursion IsNamedFlow model.flows

-- All names that facts and events are made of are identifiers: those of components, of models, and of types.
pub record AreNamed (assembly : Assembly) : Type 0 where
  pub paths : AllByRecursion (λ component. AllByRecursion IsIdentifier component.path) assembly.instance.components
  pub models : AllByRecursion IsNamed assembly.models
  pub types : (number : ℕ) (name : TypeName) → name_of assembly.types number ≡ Some name → AreIdentifiers name

-- ---- names differ

-- No two facts of the model of a root have one name, where nothing is declared twice and all names are identifiers.
abbrev pub FactNamesDiffer : Profile → List PackageUnit → ClassifierId → Type 0
FactNamesDiffer profile packages root =
    IsClear (IsDuplicate packages) → AreNamed (assembly_of profile packages root) → NamesDiffer (fact_name (assembly_of profile packages root)) (facts_of (assembly_of profile packages root) (universe_of (assembly_of profile packages root)))

-- No two events of the model of a root have one name, where nothing is declared twice and all names are identifiers.
abbrev pub EventNamesDiffer : Profile → List PackageUnit → ClassifierId → Type 0
EventNamesDiffer profile packages root = IsClear (IsDuplicate packages) → AreNamed (assembly_of profile packages root) → NamesDiffer (event_name (assembly_of profile packages root)) (events_of (assembly_of profile packages root))

-- ---- names are plain

-- The names of facts are plain.
abbrev pub FactNamesArePlain : Assembly → Type 0
FactNamesArePlain assembly = AreNamed assembly → (fact : FactKey) → IsPlain (fact_name assembly fact)

-- The names of events are plain.
abbrev pub EventNamesArePlain : Assembly → Type 0
EventNamesArePlain assembly = AreNamed assembly → (event : EventKey) → IsPlain (event_name assembly event)
