-- The machine of a component, and the table of its associations.
use Rattle.std.proofs.Common.{◌≡◌, ℕ, List, Option, Some, None, option_and_then, Result, Ok, Err, refl}
use Rattle.profiles.specs.declared.profile.Profile.{Profile}
use Rattle.aadl_syntax.specs.declared.core_model.PackageUnit.{PackageUnit}
use Rattle.plain_values.specs.declared.refusal.Refusal.{Refusal}
use Rattle.error_machines.specs.declared.machines.MachineId.{MachineId}
use Rattle.error_machines.specs.Machines.{Machine, machine_at}
use Rattle.error_models.specs.Below.{machine_found}
use Rattle.event_rates.specs.Associations.{last_fitting, machine_associations}
use Rattle.event_rates.specs.inner.Listed.{associations_in}
use Rattle.event_rates.specs.inner.Tables.{fitting_in, id_found, machine_table}

pub machine-found : (packages : List PackageUnit) (result : Result (Option MachineId) Refusal) → option_and_then (machine_at packages) (id_found result) ≡ machine_found packages result
machine-found packages (Err refusal) = refl
machine-found packages (Ok id) = refl

pub associations-of : (profile : Profile) (machine : Option Machine) → associations_in (machine_table profile machine) ≡ machine_associations machine
associations-of profile None = refl
associations-of profile (Some machine) = refl

pub fitting-of : (profile : Profile) (names : List (List ℕ)) (machine : Option Machine) → fitting_in names (machine_table profile machine) ≡ last_fitting profile names (machine_associations machine)
fitting-of profile names None = refl
fitting-of profile names (Some machine) = refl
