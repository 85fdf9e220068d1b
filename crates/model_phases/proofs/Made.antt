-- What was made of the instance of a root is what the definitions say of it.
use Rattle.std.proofs.Common.{◌≡◌, List, map, Result, ap, sym, ◌∙◌, subst}
use Rattle.profiles.specs.declared.profile.Profile.{Profile}
use Rattle.aadl_syntax.specs.declared.core_model.PackageUnit.{PackageUnit}
use Rattle.package_index.specs.declared.id.ClassifierId.{ClassifierId}
use Rattle.phases.specs.inner.Meets.{IsMemory, Meets, StopsBut}
use Rattle.phases.specs.Phases.{Passes, Phase, chains, tests}
use Rattle.phases.specs.declared.status.Status.{Status}
use Rattle.error_libraries.specs.Libraries.{Table, table_of}
use Rattle.error_models.specs.declared.model.ErrorModel.{ErrorModel}
use Rattle.error_models.specs.Models.{model_of}
use Rattle.instantiator.specs.Refused.{instance_refusal}
use Rattle.instantiator.specs.Whole.{Instance, instance_of}
use Rattle.propagation_links.specs.declared.link.Link.{Link}
use Rattle.propagation_links.specs.Links.{links_of}
use Rattle.propagation_links.specs.Refused.{links_group, links_refusal}
use Rattle.model_facts.specs.Assembly.{Assembly, assembly_of, points_in, with_links}
use Rattle.model_phases.specs.Phases.{assembled, kind_tests, sized}
use Rattle.model_phases.specs.Tests.{IsIt}
use Rattle.model_phases.proofs.Tested.{behind}

-- the error models of the kinds of an instance
abbrev models_in : Profile → Instance → List ErrorModel
models_in profile instance = map (model_of (table_of profile instance.packages) instance.kinds) instance.kinds

-- the tests of its kinds
pub kinds_stop : (profile : Profile) (packages : List PackageUnit) (root : ClassifierId) (instance : Instance) (status : Status) → instance ≡ instance_of packages root → StopsBut IsMemory (kind_tests profile instance) status → StopsBut IsMemory (kind_tests profile (instance_of packages root)) status
kinds_stop profile packages root instance status made stop = subst (λ (one : Instance). StopsBut IsMemory (kind_tests profile one) status) made stop

pub kinds_pass : (profile : Profile) (packages : List PackageUnit) (root : ClassifierId) (instance : Instance) → instance ≡ instance_of packages root → Passes (kind_tests profile instance) (tt {0}) → Passes (kind_tests profile (instance_of packages root)) (tt {0})
kinds_pass profile packages root instance made pass = subst (λ (one : Instance). Passes (kind_tests profile one) (tt {0})) made pass

-- the points of its kinds
points-made : (profile : Profile) (packages : List PackageUnit) (root : ClassifierId) (instance : Instance) (models : List ErrorModel) → instance ≡ instance_of packages root → models ≡ models_in profile instance
    → links_refusal profile instance (points_in models) ≡ links_refusal profile (instance_of packages root) (points_in (assembly_of profile packages root).models)
points-made profile packages root instance models made are = ap (λ all. links_refusal profile instance (points_in all)) are ∙ ap (λ (one : Instance). links_refusal profile one (points_in (models_in profile one))) made

-- the test of its links
pub links_stop : (profile : Profile) (packages : List PackageUnit) (root : ClassifierId) (instance : Instance) (models : List ErrorModel) (status : Status) → instance ≡ instance_of packages root → models ≡ models_in profile instance
    → StopsBut IsMemory (tests (IsIt (links_refusal profile instance (points_in models)))) status → StopsBut IsMemory (tests (IsIt (links_refusal profile (instance_of packages root) (points_in (assembly_of profile packages root).models)))) status
links_stop profile packages root instance models status made are stop = subst (λ one. StopsBut IsMemory (tests (IsIt one)) status) (points-made profile packages root instance models made are) stop

pub links_pass : (profile : Profile) (packages : List PackageUnit) (root : ClassifierId) (instance : Instance) (models : List ErrorModel) → instance ≡ instance_of packages root → models ≡ models_in profile instance
    → Passes (tests (IsIt (links_refusal profile instance (points_in models)))) (tt {0}) → Passes (tests (IsIt (links_refusal profile (instance_of packages root) (points_in (assembly_of profile packages root).models)))) (tt {0})
links_pass profile packages root instance models made are pass = subst (λ one. Passes (tests (IsIt one)) (tt {0})) (points-made profile packages root instance models made are) pass

-- the group of its links
pub links_named : (profile : Profile) (packages : List PackageUnit) (root : ClassifierId) (instance : Instance) (models : List ErrorModel) → instance ≡ instance_of packages root → models ≡ models_in profile instance
    → links_group profile instance (points_in models) ≡ links_group profile (instance_of packages root) (points_in (assembly_of profile packages root).models)
links_named profile packages root instance models made are = ap (λ all. links_group profile instance (points_in all)) are ∙ ap (λ (one : Instance). links_group profile one (points_in (models_in profile one))) made

-- the model put together
whole : (profile : Profile) (packages : List PackageUnit) (root : ClassifierId) (instance : Instance) (types : Table) (models : List ErrorModel) (links : List Link) → instance ≡ instance_of packages root → types ≡ table_of profile instance.packages → models ≡ models_in profile instance → links ≡ links_of profile instance (points_in models)
    → record { instance = instance; types = types; models = models; links = links } ≡ assembly_of profile packages root
whole profile packages root instance types models links made known are joined =
    let its : Assembly = record { instance = instance; types = types; models = models; links = links } in
    let same : links ≡ links_of types.profile instance (points_in models) = joined ∙ ap (λ (one : Profile). links_of one instance (points_in models)) (sym (ap (λ (one : Table). one.profile) known)) in
    let joined_up : its ≡ with_links instance types models = λ i. record { instance = instance; types = types; models = models; links = same i } in
    joined_up ∙ (λ i. with_links instance (known i) (are i)) ∙ ap (λ (one : Instance). with_links one (table_of profile one.packages) (models_in profile one)) made

-- what is made of the model of the root
pub model_met : {A : Type 0} (next : Assembly → Phase A) (profile : Profile) (packages : List PackageUnit) (root : ClassifierId) (instance : Instance) (types : Table) (models : List ErrorModel) (links : List Link) (result : Result A Status)
    → instance ≡ instance_of packages root → types ≡ table_of profile instance.packages → models ≡ models_in profile instance → links ≡ links_of profile instance (points_in models)
    → Passes (tests (IsIt (instance_refusal packages root))) (tt {0}) → Passes (kind_tests profile instance) (tt {0}) → Passes (tests (IsIt (links_refusal profile instance (points_in models)))) (tt {0})
    → Meets (sized next (record { instance = instance; types = types; models = models; links = links })) result → Meets (assembled next profile packages root) result
model_met next profile packages root instance types models links result made known are joined right kinds linked met =
    let last = sized next (assembly_of profile packages root) in
    let its : Meets last result = subst (λ (a : Assembly). Meets (sized next a) result) (whole profile packages root instance types models links made known are joined) met in
    let joining = tests (IsIt (links_refusal profile (instance_of packages root) (points_in (assembly_of profile packages root).models))) in
    let own = kind_tests profile (instance_of packages root) in
    behind (λ model. model) (tests (IsIt (instance_refusal packages root))) (chains own (λ _. chains joining (λ _. last))) result right
    (behind (λ model. model) own (chains joining (λ _. last)) result (kinds_pass profile packages root instance made kinds)
    (behind (λ model. model) joining last result (links_pass profile packages root instance models made are linked) its))
