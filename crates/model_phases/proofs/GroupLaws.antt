-- Where the tests of a model pass, its groups are empty, and what is told of one of them where those before it are.
use Rattle.std.proofs.Common.{ℕ, ◌≡◌, ◌<◌, ◌⊎◌, inl, inr, Bool, true, false, cond, nat_lt, Contains, List, [], ◌∷◌, length, MatchOption, Option, None, Some, option_to_list, refl, sym, ap, subst, ◌∙◌, arith}
use Rattle.std.proofs.lemmas.Bool.Decides.{nat_tests}
use Rattle.profiles.specs.declared.profile.Profile.{Profile}
use Rattle.aadl_syntax.specs.declared.core_model.PackageUnit.{PackageUnit}
use Rattle.plain_values.specs.declared.refusal.Code.TheVariants.{TooManyTypes}
use Rattle.plain_values.specs.declared.refusal.Refusal.{Refusal}
use Rattle.plain_values.specs.Order.{IsClear, IsFirst, least}
use Rattle.plain_values.specs.Refusal.{of_words}
use Rattle.plain_values.proofs.OrderLaws.{least-first}
use Rattle.noted_refusals.specs.Groups.{or_group}
use Rattle.noted_refusals.specs.inner.Noted.{Noted}
use Rattle.noted_refusals.proofs.Laws.{none-in}
use Rattle.package_index.specs.declared.id.ClassifierId.{ClassifierId}
use Rattle.error_libraries.specs.Libraries.{HasTooManyTypes, declared_types, greatest_types, libraries_of, table_of}
use Rattle.instantiator.specs.Components.{occurrences_of}
use Rattle.instantiator.specs.Refused.{instance_group, instance_refusal}
use Rattle.instantiator.specs.Whole.{Instance}
use Rattle.instantiator.proofs.GroupLaws.{groups-none}
use Rattle.error_models.specs.Refused.{all_set_refusals, machines_refusal, models_group, models_refusal}
use Rattle.error_models.proofs.GroupLaws.{models-least}
use Rattle.propagation_points.specs.Points.{Point}
use Rattle.propagation_links.specs.Ends.{Pointed}
use Rattle.propagation_links.specs.Refused.{links_group, links_refusal}
use Rattle.propagation_links.proofs.LinkLaws.{links-least}
use Rattle.phases.specs.declared.status.Status.{Status}
use Rattle.phases.specs.declared.status.Status.TheVariants as status
use Rattle.phases.specs.inner.Meets.{IsMemory, StopsBut}
use Rattle.phases.specs.Phases.{Passes, Stops, tests}
use Rattle.model_phases.specs.Groups.{content_group, kinds_group, types_group}
use Rattle.model_phases.specs.Phases.{kind_tests}
use Rattle.model_phases.specs.Tests.{IsIt}
use Rattle.model_phases.specs.inner.Told.{ToldFirst, ToldOf}
use Rattle.model_phases.proofs.ToldLaws.{First, FirstOf, told-with}

-- ---- groups that are empty

clear-one : (one : Option Refusal) → IsClear (IsIt one) → one ≡ None
clear-one None clear = refl
clear-one (Some refusal) clear = absurd (clear refusal refl)

empty-at : (group : List Refusal) (first : Option Refusal) → MatchOption first (group ≡ []) (λ its. IsFirst (Contains group) its) → IsClear (Contains group) → group ≡ []
empty-at group None empty clear = empty
empty-at group (Some refusal) is clear = absurd (clear refusal is.stands)

-- a group in which nothing stands
pub clear-group : (group : List Refusal) → IsClear (Contains group) → group ≡ []
clear-group group = empty-at group (least group) (least-first group)

types-by : (packages : List PackageUnit) (b : Bool) → nat_lt greatest_types (length (declared_types (libraries_of packages))) ≡ b → IsClear (HasTooManyTypes packages) → cond b (of_words TooManyTypes ∷ []) [] ≡ []
types-by packages true many clear =
    let over : greatest_types < length (declared_types (libraries_of packages)) = grind (arith, nat_tests, many) in
    absurd (clear (of_words TooManyTypes) (record { many = over; is = refl }))
types-by packages false few clear = refl

pub instance-clear : (packages : List PackageUnit) (root : ClassifierId) → Passes (tests (IsIt (instance_refusal packages root))) (tt {0}) → instance_group packages root ≡ []
instance-clear packages root pass = groups-none packages (occurrences_of packages root) 0 (clear-one (instance_refusal packages root) pass.passed)

pub machines-clear : (instance : Instance) → Passes (tests (IsIt (machines_refusal instance.packages instance.kinds))) (tt {0}) → option_to_list (machines_refusal instance.packages instance.kinds) ≡ []
machines-clear instance pass = ap option_to_list (clear-one (machines_refusal instance.packages instance.kinds) pass.passed)

pub types-clear : (packages : List PackageUnit) → Passes (tests (HasTooManyTypes packages)) (tt {0}) → types_group packages ≡ []
types-clear packages pass = types-by packages (nat_lt greatest_types (length (declared_types (libraries_of packages)))) refl pass.passed

pub kinds-clear : (profile : Profile) (instance : Instance) → Passes (kind_tests profile instance) (tt {0}) → kinds_group profile instance ≡ []
kinds-clear profile instance pass =
    let types = table_of profile instance.packages in
    let machines = ap option_to_list (clear-one (machines_refusal instance.packages instance.kinds) pass.passed.1) in
    let few = types-by instance.packages (nat_lt greatest_types (length (declared_types (libraries_of instance.packages)))) refl pass.passed.2.1 in
    let sets = clear-group (all_set_refusals types instance.kinds) pass.passed.2.2.1 in
    let models = none-in (models_group types instance.kinds) (models-least types instance.kinds ∙ clear-one (models_refusal types instance.kinds) pass.passed.2.2.2) in
    λ i. or_group (machines i) (or_group (few i) (or_group (sets i) (models i)))

pub links-clear : (profile : Profile) (instance : Instance) (points : List (List Point)) → Passes (tests (IsIt (links_refusal profile instance points))) (tt {0}) → links_group profile instance points ≡ []
links-clear profile instance points pass =
    let pointed : Pointed = record { instance = instance; points = points } in
    none-in (links_group profile instance points) (links-least profile pointed ∙ clear-one (links_refusal profile instance points) pass.passed)

-- ---- a refusal alone

types-many : (packages : List PackageUnit) (refusal : Refusal) → HasTooManyTypes packages refusal → refusal ∷ [] ≡ types_group packages
types-many packages refusal is =
    let over : nat_lt greatest_types (length (declared_types (libraries_of packages))) ≡ true = grind (arith, nat_tests, is.many) in
    ap (λ r. r ∷ []) is.is ∙ sym (ap (λ b. cond b (of_words TooManyTypes ∷ []) []) over)

types-stopped : (packages : List PackageUnit) (refusal : Refusal) → StopsBut IsMemory (tests (HasTooManyTypes packages)) (status.Refused refusal) → refusal ∷ [] ≡ types_group packages
types-stopped packages refusal (inl stops) =
    let same : status.Refused refusal ≡ status.Refused stops.stopped.0 = stops.stopped.2 in
    let one : refusal ≡ stops.stopped.0 = cc in
    ap (λ r. r ∷ []) one ∙ types-many packages stops.stopped.0 stops.stopped.1.stands
types-stopped packages refusal (inr memory) = let none : status.Refused refusal ≡ status.Memory = memory in cc

-- M8, told alone
pub types-told : (packages : List PackageUnit) (noted : Noted) (end : Status) → StopsBut IsMemory (tests (HasTooManyTypes packages)) end → ToldOf [] noted end → ToldFirst (types_group packages) noted end
types-told packages noted end =
    told-with (StopsBut IsMemory (tests (HasTooManyTypes packages))) (FirstOf [] noted) (First (types_group packages) noted) end
    (λ refusal stops told. subst (λ group. First group noted refusal) (types-stopped packages refusal stops) told)
