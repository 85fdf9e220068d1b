-- The phases of a model: what is refused of a root in packages, in order, and else its system.
use Rattle.std.specs.Prelude.{◌≡◌, List, length, map, Contains}
use Rattle.profiles.specs.declared.profile.Profile.{Profile}
use Rattle.aadl_syntax.specs.declared.core_model.PackageUnit.{PackageUnit}
use Rattle.phases.specs.Phases.{Phase, accepts, tests, yields, ◌>>=◌}
use Rattle.package_index.specs.declared.id.ClassifierId.{ClassifierId}
use Rattle.error_libraries.specs.Libraries.{HasTooManyTypes, Table, table_of}
use Rattle.instantiator.specs.Refused.{instance_refusal}
use Rattle.instantiator.specs.Whole.{Instance, instance_of}
use Rattle.error_models.specs.Refused.{all_set_refusals, machines_refusal, models_refusal}
use Rattle.propagation_links.specs.Refused.{links_refusal}
use Rattle.model_facts.specs.Assembly.{Assembly, assembly_of, points_in}
use Rattle.model_facts.specs.Effects.{effects_of}
use Rattle.fact_formulas.specs.Flat.{size_refusal, system_of}
use Rattle.event_rates.specs.Associations.{rate_in}
use Rattle.model_facts.specs.Facts.{events_of}
use Rattle.event_origins.specs.Origins.{origin_of}
use Rattle.model_phases.specs.declared.flat.FlatModel.{FlatModel}
use Rattle.finding_places.specs.Lines.{AreLinesOf}
use Rattle.model_phases.specs.declared.events.EventModel.{EventModel}
use Rattle.model_phases.specs.declared.review.ReviewedModel.{ReviewedModel}
use Rattle.model_phases.specs.Named.{IsPlainModel}
use Rattle.model_phases.specs.Tests.{IsIt}

-- what is tested of the error models of kinds of components: the written sets that they use (N2, N7, N8, P4), and then each
-- error model (N9 to N13, P3, P5 to P8, P11, P12)
abbrev pub content_tests : Table → List ClassifierId → Phase (Unit {0})
content_tests types kinds = do
  _ ← tests (Contains (all_set_refusals types kinds))
  tests (IsIt (models_refusal types kinds))

-- what is tested of the kinds of components of an instance: each uses a machine that there is (N2, N15), there are not too many
-- error types (M8), and their error models are right
abbrev pub kind_tests : Profile → Instance → Phase (Unit {0})
kind_tests profile instance = do
  _ ← tests (IsIt (machines_refusal instance.packages instance.kinds))
  _ ← tests (HasTooManyTypes instance.packages)
  content_tests (table_of profile instance.packages) instance.kinds

-- a model as a system: how many components it has, what holds in it, which of its facts are effects of failures, and the rates of its
-- events
abbrev pub flat_of : Assembly → FlatModel
flat_of assembly = record {
  components = length assembly.instance.components;
  system = system_of assembly;
  effects = effects_of assembly;
  rates = map (rate_in assembly.types.profile assembly.instance) (system_of assembly).events;
}

-- This is the model that is put together, and it is plain.
pub record IsFlat (assembly : Assembly) (model : FlatModel) : Type 0 where
  pub model_is : model ≡ flat_of assembly
  pub plain : IsPlainModel model

-- a model that is put together, as a system
abbrev pub flat_phase : Assembly → Phase FlatModel
flat_phase assembly = accepts (IsFlat assembly)

-- what a further phase makes of a model that is put together, and is not too large (M6, M7, M9)
abbrev pub sized : {A : Type 0} → (Assembly → Phase A) → Assembly → Phase A
sized next assembly = do
  _ ← tests (IsIt (size_refusal assembly))
  next assembly

-- What a further phase makes of the model of a root in packages: its components are right (M4, M5, N2 to N6, P1 to P3), then their
-- error models, then its links (M14, N14, P3, P9), then its size, and then comes the phase.
abbrev pub assembled : {A : Type 0} → (Assembly → Phase A) → Profile → List PackageUnit → ClassifierId → Phase A
assembled next profile packages root = do
  _ ← tests (IsIt (instance_refusal packages root))
  _ ← kind_tests profile (instance_of packages root)
  _ ← tests (IsIt (links_refusal profile (instance_of packages root) (points_in (assembly_of profile packages root).models)))
  sized next (assembly_of profile packages root)

-- a model as a system, and of which kind each of its events is, and where it is declared
abbrev pub with_origins : Assembly → FlatModel → EventModel
with_origins assembly model = record { flat = model; origins = map (origin_of assembly) (events_of assembly) }

-- The model that is put together, as a system, with the origins of its events.
abbrev pub origins_phase : Assembly → Phase EventModel
origins_phase assembly = do
  model ← flat_phase assembly
  yields (with_origins assembly model)

-- The lines of the review of a model that is put together.
abbrev pub review_phase : Assembly → Phase ReviewedModel
review_phase assembly = accepts (λ reviewed. AreLinesOf assembly reviewed.lines)
