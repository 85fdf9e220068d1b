-- The root in the files, and the target.
use Rattle.std.proofs.Common.{◌≡◌, ◌⊎◌, inl, inr, Contains, Err, List, [], None, Result, Ok, refl, sym, ap, subst, ◌∙◌}
use Rattle.aadl_syntax.specs.declared.core_model.PackageUnit.{PackageUnit}
use Rattle.aadl_syntax.specs.declared.core_model.Unit.{Unit as FileUnit}
use Rattle.plain_values.specs.declared.name.Root.{Root}
use Rattle.plain_values.specs.declared.refusal.Place.TheVariants.{Words}
use Rattle.plain_values.specs.declared.refusal.Refusal.{Refusal}
use Rattle.plain_values.specs.declared.refusal.Stop.{Stop}
use Rattle.plain_values.specs.declared.refusal.Stop.TheVariants as stop
use Rattle.plain_values.specs.Order.{IsClear, IsFirst}
use Rattle.package_index.specs.Duplicates.{IsDuplicate, duplicates}
use Rattle.package_index.proofs.DuplicateLaws.{is_duplicate, is_listed}
use Rattle.noted_refusals.specs.inner.Noted.{Noted, Tells, TellsFirst}
use Rattle.noted_refusals.proofs.Laws.{told-least}
use Rattle.instantiator.proofs.KindLaws.{refused-stops}
use Rattle.model_phases.proofs.GroupLaws.{clear-group}
use Rattle.plain_values.specs.inner.Stops.{StopsAtFirst}
use Rattle.package_index.specs.Lookup.{look_classifier, packages_of, refused_at}
use Rattle.package_index.specs.declared.id.ClassifierId.{ClassifierId}
use Rattle.phases.specs.inner.Meets.{IsMemory, Meets}
use Rattle.phases.specs.Phases.{Passes, Phase, Stops, chains, computes, tests}
use Rattle.phases.specs.inner.Stopped.{status_of}
use Rattle.phases.specs.declared.status.Status.{Status}
use Rattle.phases.specs.declared.status.Status.TheVariants as status
use Rattle.phases.specs.inner.Meets.{StopsBut}
use Rattle.phases.proofs.Steps.{computed, ends, meets_later, not_computed}
use Rattle.model_facts.specs.Assembly.{Assembly}
use Rattle.profiles.specs.declared.profile.Profile.{Profile}
use Rattle.model_phases.specs.Phases.{assembled}
use Rattle.fta_run.specs.Due.{made_of_units}
use Rattle.fta_run.specs.Model.{HasDuplicate, root_named}

-- ---- the root

-- the index of the files is refused
pub index_stop : {A : Type 0} (next : Assembly → Phase A) (profile : Profile) (files its : List (List FileUnit)) (root : Root) (why : Stop) → its ≡ files → StopsAtFirst (IsDuplicate (packages_of its)) why
    → Stops (made_of_units next profile root files) (status_of why) ⊎ IsMemory (status_of why)
index_stop next profile files its root (stop.Refused refusal) same first =
    inl (record { stopped = inl (refusal, subst (λ fs. IsFirst (HasDuplicate fs) refusal) same first, refl) })
index_stop next profile files its root stop.Memory same first = inr refl

-- nothing is declared again
pub no_duplicate : (files its : List (List FileUnit)) → its ≡ files → IsClear (IsDuplicate (packages_of its)) → Passes (tests (HasDuplicate files)) (tt {0})
no_duplicate files its same clear = record { passed = subst (λ fs. IsClear (HasDuplicate fs)) same clear }

-- what is looked up in the index is what the root names
pub root_is : (files its : List (List FileUnit)) (packages : List PackageUnit) (root : Root) (result : Result ClassifierId Refusal) → packages ≡ packages_of its → its ≡ files → result ≡ refused_at Words (look_classifier packages None root.names root.item)
    → root_named files root ≡ result
root_is files its packages root result are same found =
    sym (found ∙ ap (λ (ps : List PackageUnit). refused_at Words (look_classifier ps None root.names root.item)) (are ∙ ap packages_of same))

-- the list of what is declared again is that group
first_again : (packages : List PackageUnit) (why : Stop) → StopsAtFirst (IsDuplicate packages) why → StopsAtFirst (Contains (duplicates packages)) why
first_again packages (stop.Refused refusal) first = record { stands = is_listed packages refusal first.stands; none_before = λ other there. first.none_before other (is_duplicate packages other there) }
first_again packages stop.Memory first = tt

-- what is declared again is told
pub duplicates_told : (packages : List PackageUnit) (noted : Noted) (why : Stop) → StopsAtFirst (IsDuplicate packages) why → Tells (duplicates packages) noted why → TellsFirst (duplicates packages) noted why
duplicates_told packages noted why first lists = told-least (duplicates packages) noted why (refused-stops (duplicates packages) why (first_again packages why first)) lists

-- where nothing is declared again, the group is empty
pub none_again : (packages : List PackageUnit) → IsClear (IsDuplicate packages) → duplicates packages ≡ []
none_again packages clear = clear-group (duplicates packages) (λ refusal there. clear refusal (is_duplicate packages refusal there))

-- the root names nothing
pub root_stop : {A : Type 0} (next : Assembly → Phase A) (profile : Profile) (files its : List (List FileUnit)) (packages : List PackageUnit) (root : Root) (end : Status) → packages ≡ packages_of its → its ≡ files
    → ((refusal : Refusal) × (refused_at Words (look_classifier packages None root.names root.item) ≡ Err refusal) × (end ≡ status.Refused refusal)) → StopsBut IsMemory (chains (computes (root_named files root)) (assembled next profile (packages_of files))) end
root_stop next profile files its packages root end are same (refusal, found, is) =
    subst (StopsBut IsMemory (chains (computes (root_named files root)) (assembled next profile (packages_of files)))) (sym is) (ends (not_computed (root_is files its packages root _ are same refl ∙ found)))

-- what is made of the model of the root in the index of the files
pub model_in : {A : Type 0} (next : Assembly → Phase A) (profile : Profile) (files its : List (List FileUnit)) (packages : List PackageUnit) (root : Root) (id : ClassifierId) (result : Result A Status) → packages ≡ packages_of its → its ≡ files
    → IsClear (IsDuplicate (packages_of its)) → root_named files root ≡ Ok id → Meets (assembled next profile packages id) result → Meets (made_of_units next profile root files) result
model_in next profile files its packages root id result are same clear named met =
    let whole : Meets (assembled next profile (packages_of files) id) result = subst (λ (ps : List PackageUnit). Meets (assembled next profile ps id) result) (are ∙ ap packages_of same) met in
    let behind : Meets (chains (computes (root_named files root)) (assembled next profile (packages_of files))) result =
    meets_later IsMemory (λ model. model) (computes (root_named files root)) (assembled next profile (packages_of files)) id result (λ s memory. memory) (computed named) whole
    in
    meets_later IsMemory (λ model. model) (tests (HasDuplicate files)) (λ _. chains (computes (root_named files root)) (assembled next profile (packages_of files))) (tt {0}) result (λ s memory. memory) (no_duplicate files its same clear) behind
