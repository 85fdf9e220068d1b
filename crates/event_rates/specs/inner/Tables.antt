-- What the tables of the associations of a model know.
use Rattle.std.specs.Prelude.{ℕ, List, map, Option, Some, None, option_map, Result, Ok, Err}
use Rattle.profiles.specs.declared.profile.Profile.{Profile}
use Rattle.aadl_syntax.specs.declared.core_model.PackageUnit.{PackageUnit}
use Rattle.aadl_syntax.specs.declared.error_model.Association.{Association}
use Rattle.plain_values.specs.declared.refusal.Refusal.{Refusal}
use Rattle.package_index.specs.declared.id.ClassifierId.{ClassifierId}
use Rattle.component_extension.specs.declared.effective.Effective.{Effective}
use Rattle.error_machines.specs.declared.machines.MachineId.{MachineId}
use Rattle.error_machines.specs.Machines.{Machine, find_machine}
use Rattle.instantiator.specs.Effectives.{effective_of}
use Rattle.event_rates.specs.declared.kinds.KindRates.{KindRates}
use Rattle.event_rates.specs.Associations.{clause_associations, further_keys, last_fitting}
use Rattle.event_rates.specs.inner.Listed.{Listed, listed}

-- the machine that is found, if one is
abbrev pub id_found : Result (Option MachineId) Refusal → Option MachineId
id_found (Err refusal) = None
id_found (Ok id) = id

-- what is known of components with this effective classifier: the associations of their clauses, their machine, and the
-- further keys of their events
abbrev pub effective_rates : Profile → List PackageUnit → Effective → KindRates
effective_rates profile packages effective = record {
  clauses = listed profile (clause_associations effective);
  machine = id_found (find_machine packages effective);
  keys = further_keys profile packages effective;
}

-- what is known of components of this classifier
abbrev pub kind_rates : Profile → List PackageUnit → ClassifierId → KindRates
kind_rates profile packages id = effective_rates profile packages (effective_of packages id)

-- the associations of a machine, if there is one, read by a profile
abbrev pub machine_table : Profile → Option Machine → Option Listed
machine_table profile machine = option_map (λ used. listed profile used.item.associations) machine

-- the last association of a table, if there is one, that fits
abbrev pub fitting_in : List (List ℕ) → Option Listed → Option Association
fitting_in names None = None
fitting_in names (Some table) = last_fitting table.profile names table.list

-- the associations of the machines of a package
abbrev pub unit_associations : Profile → PackageUnit → List Listed
unit_associations profile unit = map (λ machine. listed profile machine.associations) unit.library.machines

-- the associations of the machines of each package
abbrev pub all_associations : Profile → List PackageUnit → List (List Listed)
all_associations profile packages = map (unit_associations profile) packages
