-- The group of an instance, and its first refusal.
use Rattle.std.proofs.Common.{ℕ, suc, ◌+◌, ◌≡◌, List, [], ◌∷◌, ◌++◌, length, Option, Some, None, Result, Ok, Err, refl, sym, ap, ◌∙◌, subst, arith}
use Rattle.std.specs.Prelude.{option_to_list}
use Rattle.std.specs.Option.{option_or}
use Rattle.aadl_syntax.specs.declared.core_model.PackageUnit.{PackageUnit}
use Rattle.plain_values.specs.declared.refusal.Refusal.{Refusal}
use Rattle.plain_values.specs.declared.refusal.Stop.{Stop}
use Rattle.plain_values.specs.declared.refusal.Stop.TheVariants.{Memory, Refused}
use Rattle.plain_values.specs.inner.Stops.{StopsAt}
use Rattle.plain_values.specs.Order.{least}
use Rattle.noted_refusals.specs.Groups.{or_group}
use Rattle.noted_refusals.specs.inner.Noted.{Noted, TellsFirst}
use Rattle.noted_refusals.proofs.Laws.{least-one, least-or, none-in, or-assoc}
use Rattle.package_index.specs.declared.id.ClassifierId.{ClassifierId}
use Rattle.component_extension.specs.Items.{classifier_refusals}
use Rattle.instantiator.specs.declared.occurrence.Occurrence.{Occurrence}
use Rattle.instantiator.specs.Refused.{classifier_group, classifier_refusal, component_group, component_refusal, first_refusal, groups_from, limit_refusal}

classifier-least : (packages : List PackageUnit) (classifier : Result (Option ClassifierId) Refusal) → least (classifier_group packages classifier) ≡ classifier_refusal packages classifier
classifier-least packages (Err refusal) = refl
classifier-least packages (Ok None) = refl
classifier-least packages (Ok (Some id)) = refl

component-least : (packages : List PackageUnit) (number : ℕ) (one : Occurrence) → least (component_group packages number one) ≡ component_refusal packages number one
component-least packages number one =
    least-or (option_to_list (limit_refusal number one)) (classifier_group packages one.classifier)
    ∙ (λ i. option_or (least-one (limit_refusal number one) i) (classifier-least packages one.classifier i))

-- the first refusal is that of the group
pub groups-least : (packages : List PackageUnit) (all : List Occurrence) (number : ℕ) → least (groups_from packages number all) ≡ first_refusal packages number all
groups-least packages [] number = refl
groups-least packages (one ∷ all) number =
    least-or (component_group packages number one) (groups_from packages (number + 1) all)
    ∙ (λ i. option_or (component-least packages number one i) (groups-least packages all (number + 1) i))

-- where nothing is refused, the group is empty
pub groups-none : (packages : List PackageUnit) (all : List Occurrence) (number : ℕ) → first_refusal packages number all ≡ None → groups_from packages number all ≡ []
groups-none packages all number none = none-in (groups_from packages number all) (groups-least packages all number ∙ none)

-- the group of one list of components and then of another
pub groups-append : (packages : List PackageUnit) (number : ℕ) (xs ys : List Occurrence) → groups_from packages number (xs ++ ys) ≡ or_group (groups_from packages number xs) (groups_from packages (number + length xs) ys)
groups-append packages number [] ys =
    let same : number ≡ number + 0 = omega arith in
    ap (λ n. groups_from packages n ys) same
groups-append packages number (one ∷ xs) ys =
    let count : number + 1 + length xs ≡ number + suc (length xs) = omega arith in
    ap (or_group (component_group packages number one)) (groups-append packages (number + 1) xs ys ∙ ap (λ n. or_group (groups_from packages (number + 1) xs) (groups_from packages n ys)) count)
    ∙ or-assoc (component_group packages number one) (groups_from packages (number + 1) xs) (groups_from packages (number + suc (length xs)) ys)

-- what is told of a group stops with its first refusal
pub told-stops : (group : List Refusal) (one : Option Refusal) (noted : Noted) (stop : Stop) → least group ≡ one → TellsFirst group noted stop → StopsAt one stop
told-stops group one noted Memory is told = tt
told-stops group one noted (Refused refusal) is told = sym is ∙ told.0

-- what is told of the group of components stops with their first refusal
pub first-stops : (packages : List PackageUnit) (number : ℕ) (all : List Occurrence) (noted : Noted) (stop : Stop) → TellsFirst (groups_from packages number all) noted stop → StopsAt (first_refusal packages number all) stop
first-stops packages number all noted stop told = told-stops (groups_from packages number all) (first_refusal packages number all) noted stop (groups-least packages all number) told
