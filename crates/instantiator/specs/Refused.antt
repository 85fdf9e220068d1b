-- What is refused of an instance: the first component in preorder of which anything is.
use Rattle.std.specs.Prelude.{ℕ, ◌+◌, nat_le, List, [], ◌∷◌, length, Option, Some, None, Result, Ok, Err, option_to_list}
use Rattle.std.specs.Option.{option_or}
use Rattle.aadl_syntax.specs.declared.core_model.PackageUnit.{PackageUnit}
use Rattle.plain_values.specs.declared.refusal.Code.TheVariants.{TooManyComponents, TooDeep}
use Rattle.plain_values.specs.declared.refusal.Refusal.{Refusal}
use Rattle.plain_values.specs.Order.{least}
use Rattle.plain_values.specs.Refusal.{over_limit}
use Rattle.noted_refusals.specs.Groups.{or_group}
use Rattle.package_index.specs.declared.id.ClassifierId.{ClassifierId}
use Rattle.component_extension.specs.Items.{classifier_refusals}
use Rattle.instantiator.specs.declared.occurrence.Occurrence.{Occurrence}
use Rattle.instantiator.specs.Components.{occurrences_of}

-- The first refusal of a classifier: that of its name where that is refused, and else the first of its chain and of its
-- members.
abbrev pub classifier_refusal : List PackageUnit → Result (Option ClassifierId) Refusal → Option Refusal
classifier_refusal packages (Err refusal) = Some refusal
classifier_refusal packages (Ok None) = None
classifier_refusal packages (Ok (Some id)) = least (classifier_refusals packages id)

-- M4 where 4,096 components stand before this one, and M5 where its path has more than 32 names, both at its name
abbrev pub limit_refusal : ℕ → Occurrence → Option Refusal
limit_refusal number one =
    option_or (over_limit (nat_le 4096 number) TooManyComponents one.place) (over_limit (nat_le 33 (length one.path)) TooDeep one.place)

-- The first refusal of the component of a number, which begins at 0: that of the limits, and then that of its classifier.
abbrev pub component_refusal : List PackageUnit → ℕ → Occurrence → Option Refusal
component_refusal packages number one = option_or (limit_refusal number one) (classifier_refusal packages one.classifier)

-- the refusal of the first of these components that has one, where they are numbered from here on
abbrev pub first_refusal : List PackageUnit → ℕ → List Occurrence → Option Refusal
first_refusal packages number [] = None
first_refusal packages number (one ∷ more) = option_or (component_refusal packages number one) (first_refusal packages (number + 1) more)

-- The refusal of an instance: that of its first component in preorder that has one.
abbrev pub instance_refusal : List PackageUnit → ClassifierId → Option Refusal
instance_refusal packages root = first_refusal packages 0 (occurrences_of packages root)

-- ---- groups

-- the group of the refusals of a classifier: that of its name alone where that is refused, and else those of its chain or of its members
abbrev pub classifier_group : List PackageUnit → Result (Option ClassifierId) Refusal → List Refusal
classifier_group packages (Err refusal) = refusal ∷ []
classifier_group packages (Ok None) = []
classifier_group packages (Ok (Some id)) = classifier_refusals packages id

-- The group of the component of a number: the refusal of a limit alone, and else the group of its classifier.
abbrev pub component_group : List PackageUnit → ℕ → Occurrence → List Refusal
component_group packages number one = or_group (option_to_list (limit_refusal number one)) (classifier_group packages one.classifier)

-- the group of the first of these components of which anything is refused, where they are numbered from here on
abbrev pub groups_from : List PackageUnit → ℕ → List Occurrence → List Refusal
groups_from packages number [] = []
groups_from packages number (one ∷ more) = or_group (component_group packages number one) (groups_from packages (number + 1) more)

-- The group of an instance: that of its first component in preorder of which anything is refused.
abbrev pub instance_group : List PackageUnit → ClassifierId → List Refusal
instance_group packages root = groups_from packages 0 (occurrences_of packages root)
