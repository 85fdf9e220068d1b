-- The groups of refusals by which a model is tested: the first in which anything is refused is told.
use Rattle.std.specs.Prelude.{cond, nat_lt, List, [], ◌∷◌, length, option_to_list}
use Rattle.profiles.specs.declared.profile.Profile.{Profile}
use Rattle.aadl_syntax.specs.declared.core_model.PackageUnit.{PackageUnit}
use Rattle.plain_values.specs.declared.refusal.Code.TheVariants.{TooManyTypes}
use Rattle.plain_values.specs.declared.refusal.Refusal.{Refusal}
use Rattle.plain_values.specs.Refusal.{of_words}
use Rattle.noted_refusals.specs.Groups.{or_group}
use Rattle.package_index.specs.declared.id.ClassifierId.{ClassifierId}
use Rattle.error_libraries.specs.Libraries.{declared_types, greatest_types, libraries_of, table_of}
use Rattle.instantiator.specs.Refused.{instance_group}
use Rattle.instantiator.specs.Whole.{Instance, instance_of}
use Rattle.error_models.specs.Refused.{all_set_refusals, machines_refusal, models_group}
use Rattle.propagation_links.specs.Refused.{links_group}
use Rattle.model_facts.specs.Assembly.{assembly_of, points_in}

-- M8 alone, where packages declare too many types
abbrev pub types_group : List PackageUnit → List Refusal
types_group packages = cond (nat_lt greatest_types (length (declared_types (libraries_of packages)))) (of_words TooManyTypes ∷ []) []

-- the group of the error models of an instance: all written sets that are used, and then that of a model
abbrev pub content_group : Profile → Instance → List Refusal
content_group profile instance = or_group (all_set_refusals (table_of profile instance.packages) instance.kinds) (models_group (table_of profile instance.packages) instance.kinds)

-- The group of the kinds of an instance: the refusal of a machine alone, M8 alone, and then the group of their error models.
abbrev pub kinds_group : Profile → Instance → List Refusal
kinds_group profile instance =
    or_group (option_to_list (machines_refusal instance.packages instance.kinds)) (or_group (types_group instance.packages) (content_group profile instance))

-- The group of the model of a root in packages: that of its components, of their kinds, or of its links. It is empty where nothing is
-- refused but its size, which has one refusal alone.
abbrev pub root_group : Profile → List PackageUnit → ClassifierId → List Refusal
root_group profile packages root =
    or_group (instance_group packages root)
    (or_group (kinds_group profile (instance_of packages root)) (links_group profile (instance_of packages root) (points_in (assembly_of profile packages root).models)))
