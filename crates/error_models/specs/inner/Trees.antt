-- The kinds of an instance, as what lies below them is looked up.
use Rattle.std.specs.Prelude.{◌≡◌, List, map}
use Rattle.profiles.specs.declared.profile.Profile.{Profile}
use Rattle.aadl_syntax.specs.declared.core_model.PackageUnit.{PackageUnit}
use Rattle.package_index.specs.declared.id.ClassifierId.{ClassifierId}
use Rattle.error_machines.specs.declared.states.States.{States}
use Rattle.instantiator.specs.Components.{Part}
use Rattle.error_models.specs.Below.{kind_parts, kind_states}

-- The kinds of an instance, the packages in which they stand, and the profile by which these are read.
pub record Tree : Type 0 where
  pub profile : Profile
  pub packages : List PackageUnit
  pub kinds : List ClassifierId

-- These rows are the subcomponents and the states of the kinds.
pub record IsTree (profile : Profile) (packages : List PackageUnit) (kinds : List ClassifierId) (rows : List (List Part)) (all : List States) : Type 0 where
  pub parts : rows ≡ map (kind_parts packages) kinds
  pub states : all ≡ map (kind_states profile packages) kinds

-- A component of this classifier, and what lies below it.
pub record Below : Type 0 where
  pub tree : Tree
  pub classifier : ClassifierId
