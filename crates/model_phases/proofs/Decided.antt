-- A model has one end at most, and stops with refusals alone.
use Rattle.std.proofs.Common.{◌≡◌, List, Contains, sym, ◌∙◌}
use Rattle.profiles.specs.declared.profile.Profile.{Profile}
use Rattle.aadl_syntax.specs.declared.core_model.PackageUnit.{PackageUnit}
use Rattle.plain_values.specs.declared.refusal.Refusal.{Refusal}
use Rattle.plain_values.specs.Order.{IsFirst}
use Rattle.package_index.specs.declared.id.ClassifierId.{ClassifierId}
use Rattle.phases.specs.Phases.{IsRefusal, Phase}
use Rattle.phases.specs.inner.Phases.{IsDecided}
use Rattle.phases.specs.declared.status.Status.{Status}
use Rattle.phases.specs.declared.status.Status.TheVariants.{Refused}
use Rattle.phases.proofs.Endings.{StopsOnly}
use Rattle.phases.proofs.Leaves.{decided_accepts, decided_tests}
use Rattle.error_libraries.specs.Libraries.{HasTooManyTypes, Table, table_of}
use Rattle.error_models.specs.Refused.{all_set_refusals, machines_refusal, models_refusal}
use Rattle.instantiator.specs.Refused.{instance_refusal}
use Rattle.instantiator.specs.Whole.{Instance, instance_of}
use Rattle.propagation_links.specs.Refused.{links_refusal}
use Rattle.model_facts.specs.Assembly.{Assembly, assembly_of, points_in}
use Rattle.fact_formulas.specs.Flat.{size_refusal}
use Rattle.model_phases.specs.Phases.{IsFlat, assembled, content_tests, flat_phase, kind_tests, origins_phase, review_phase}
use Rattle.finding_places.specs.Lines.{AreLinesOf}
use Rattle.finding_places.proofs.OneReview.{one-review}
use Rattle.model_phases.specs.declared.review.ReviewedModel.{ReviewedModel}
use Rattle.model_phases.specs.Tests.{IsIt}

-- ---- one end at most

module _ (Same : Status → Status → Type 0) (itself : (status : Status) → Same status status) where
  content_decided : (types : Table) (kinds : List ClassifierId) → IsDecided Same (content_tests types kinds)
  content_decided types kinds = (
    decided_tests Same itself (Contains (all_set_refusals types kinds)),
    λ _ right. decided_tests Same itself (IsIt (models_refusal types kinds)),
  )

  kinds_decided : (profile : Profile) (instance : Instance) → IsDecided Same (kind_tests profile instance)
  kinds_decided profile instance = (
    decided_tests Same itself (IsIt (machines_refusal instance.packages instance.kinds)),
    λ _ found. (decided_tests Same itself (HasTooManyTypes instance.packages), λ _ few. content_decided (table_of profile instance.packages) instance.kinds),
  )

  flat_decided : (assembly : Assembly) → IsDecided Same (flat_phase assembly)
  flat_decided assembly = decided_accepts Same (IsFlat assembly) (λ a b one other. one.model_is ∙ sym other.model_is)

  -- what is made of a model has one end at most, where what comes last has
  pub assembled_decided : {A : Type 0} (next : Assembly → Phase A) → ((assembly : Assembly) → IsDecided Same (next assembly)) → (profile : Profile) (packages : List PackageUnit) (root : ClassifierId) → IsDecided Same (assembled next profile packages root)
  assembled_decided next last profile packages root = (
    decided_tests Same itself (IsIt (instance_refusal packages root)),
    λ _ made. (
      kinds_decided profile (instance_of packages root),
      λ _ right. (
        decided_tests Same itself (IsIt (links_refusal profile (instance_of packages root) (points_in (assembly_of profile packages root).models))),
        λ _ linked. (decided_tests Same itself (IsIt (size_refusal (assembly_of profile packages root))), λ _ small. last (assembly_of profile packages root)),
      ),
    ),
  )

  -- the model of a root has one end at most
  pub model_decided : (profile : Profile) (packages : List PackageUnit) (root : ClassifierId) → IsDecided Same (assembled flat_phase profile packages root)
  model_decided = assembled_decided flat_phase flat_decided

  -- and so has its review
  pub review_decided : (profile : Profile) (packages : List PackageUnit) (root : ClassifierId) → IsDecided Same (assembled review_phase profile packages root)
  review_decided = assembled_decided review_phase (λ assembly. decided_accepts Same (λ (reviewed : ReviewedModel). AreLinesOf assembly reviewed.lines) (λ a b one other. (λ i. record { lines = one-review assembly a.lines b.lines one other i })))

  -- and so has it with the origins of its events
  pub origins_decided : (profile : Profile) (packages : List PackageUnit) (root : ClassifierId) → IsDecided Same (assembled origins_phase profile packages root)
  origins_decided = assembled_decided origins_phase (λ assembly. (flat_decided assembly, λ model at. tt))

-- ---- refusals alone

-- The status is a refusal.
abbrev pub IsARefusal : Status → Type 0
IsARefusal status = (refusal : Refusal) × (status ≡ Refused refusal)

first_is : (Stands : Refusal → Type 0) (status : Status) → IsRefusal (IsFirst Stands) status → IsARefusal status
first_is Stands status is = (is.0, is.2)

content_stops : (types : Table) (kinds : List ClassifierId) → StopsOnly IsARefusal (content_tests types kinds)
content_stops types kinds = (first_is (Contains (all_set_refusals types kinds)), λ _ right. first_is (IsIt (models_refusal types kinds)))

kinds_stop : (profile : Profile) (instance : Instance) → StopsOnly IsARefusal (kind_tests profile instance)
kinds_stop profile instance = (
  first_is (IsIt (machines_refusal instance.packages instance.kinds)),
  λ _ found. (first_is (HasTooManyTypes instance.packages), λ _ few. content_stops (table_of profile instance.packages) instance.kinds),
)

flat_stops : (assembly : Assembly) → StopsOnly IsARefusal (flat_phase assembly)
flat_stops assembly = λ s none. absurd none

-- what is made of a model stops with a refusal alone, where what comes last does
pub assembled_stops : {A : Type 0} (next : Assembly → Phase A) → ((assembly : Assembly) → StopsOnly IsARefusal (next assembly)) → (profile : Profile) (packages : List PackageUnit) (root : ClassifierId) → StopsOnly IsARefusal (assembled next profile packages root)
assembled_stops next last profile packages root = (
  first_is (IsIt (instance_refusal packages root)),
  λ _ made. (
    kinds_stop profile (instance_of packages root),
    λ _ right. (
      first_is (IsIt (links_refusal profile (instance_of packages root) (points_in (assembly_of profile packages root).models))),
      λ _ linked. (first_is (IsIt (size_refusal (assembly_of profile packages root))), λ _ small. last (assembly_of profile packages root)),
    ),
  ),
)

-- the model of a root stops with a refusal alone
pub model_stops : (profile : Profile) (packages : List PackageUnit) (root : ClassifierId) → StopsOnly IsARefusal (assembled flat_phase profile packages root)
model_stops = assembled_stops flat_phase flat_stops

-- and so does it with the origins of its events
pub origins_stop : (profile : Profile) (packages : List PackageUnit) (root : ClassifierId) → StopsOnly IsARefusal (assembled origins_phase profile packages root)
origins_stop = assembled_stops origins_phase (λ assembly. (flat_stops assembly, λ model at. tt))

-- and so does its review
pub review_stop : (profile : Profile) (packages : List PackageUnit) (root : ClassifierId) → StopsOnly IsARefusal (assembled review_phase profile packages root)
review_stop = assembled_stops review_phase (λ assembly. (λ s none. absurd none))
