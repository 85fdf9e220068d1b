-- That the declaration of each event of a model has a place; no clause of `run` reaches it.
use Rattle.std.specs.Prelude.{◌≡◌, List, map, All, Contains, IsSome}
use Rattle.profiles.specs.declared.profile.Profile.{Profile}
use Rattle.aadl_syntax.specs.declared.core_model.PackageUnit.{PackageUnit}
use Rattle.package_index.specs.declared.id.ClassifierId.{ClassifierId}
use Rattle.error_models.specs.Models.{model_of}
use Rattle.model_facts.specs.Assembly.{Assembly, assembly_of}
use Rattle.model_facts.specs.Facts.{events_of}
use Rattle.model_facts.specs.declared.keys.EventKey.{EventKey}
use Rattle.event_origins.specs.declared.origin.EventOrigin.{EventOrigin}
use Rattle.event_origins.specs.Origins.{origin_of}

-- The error models of a model are those of the kinds of its instance, over the types that its packages declare.
pub record HasModelsOfKinds (assembly : Assembly) : Type 0 where
  pub packages : assembly.types.packages ≡ assembly.instance.packages
  pub models : assembly.models ≡ map (model_of assembly.types assembly.instance.kinds) assembly.instance.kinds

-- a declaration stands somewhere
abbrev pub IsPlaced : EventOrigin → Type 0
IsPlaced origin = IsSome origin.spot

-- These origins of events have a place each, where the error models are those of the kinds, and the events are of the model.
abbrev pub ArePlaced : Assembly → List EventKey → List EventOrigin → Type 0
ArePlaced assembly events origins = HasModelsOfKinds assembly → All (Contains (events_of assembly)) events → All IsPlaced origins

-- The declaration of each event of the model of a root has a place.
abbrev pub EachIsPlaced : Profile → List PackageUnit → ClassifierId → Type 0
EachIsPlaced profile packages root = All (λ event. IsPlaced (origin_of (assembly_of profile packages root) event)) (events_of (assembly_of profile packages root))
