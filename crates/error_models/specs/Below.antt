-- The machines and the states of the components of an instance (AS5506: subcomponents; EMV2: `use behavior`).
use Rattle.std.specs.Prelude.{ℕ, List, [], ◌∷◌, find, Option, Some, None, option_map, option_and_then, Result, Ok, Err}
use Rattle.plain_values.specs.Name.{is_same_text}
use Rattle.profiles.specs.declared.profile.Profile.{Profile}
use Rattle.aadl_syntax.specs.declared.core_model.PackageUnit.{PackageUnit}
use Rattle.plain_values.specs.declared.refusal.Refusal.{Refusal}
use Rattle.package_index.specs.declared.id.ClassifierId.{ClassifierId}
use Rattle.component_extension.specs.declared.effective.Effective.{Effective}
use Rattle.component_extension.specs.Chain.{same_id}
use Rattle.instantiator.specs.Components.{Part, found, parts_of}
use Rattle.instantiator.specs.Effectives.{effective_of}
use Rattle.error_libraries.specs.Libraries.{table_of}
use Rattle.propagation_points.specs.States.{Sort}
use Rattle.error_machines.specs.declared.machines.MachineId.{MachineId}
use Rattle.error_machines.specs.Machines.{Machine, find_machine, machine_at}
use Rattle.error_machines.specs.declared.states.States.{States}
use Rattle.error_machines.specs.States.{states_of}
use Rattle.composite_states.specs.Below.{StatesAt}

-- ---- machines

-- the machine that is found, if one is
abbrev pub machine_found : List PackageUnit → Result (Option MachineId) Refusal → Option Machine
machine_found packages (Err refusal) = None
machine_found packages (Ok machine) = option_and_then (machine_at packages) machine

-- The machine of a component with this effective classifier, if it uses one that is found.
abbrev pub machine_of : List PackageUnit → Effective → Option Machine
machine_of packages effective = machine_found packages (find_machine packages effective)

-- The machine of a component of this classifier, if it uses one that is found.
unfoldable pub kind_machine : List PackageUnit → ClassifierId → Option Machine
kind_machine packages id = machine_of packages (effective_of packages id)

-- The states of a component of this classifier.
abbrev pub kind_states : Profile → List PackageUnit → ClassifierId → States
kind_states profile packages id = states_of (table_of profile packages) (kind_machine packages id)

-- ---- components below

-- A classifier that components of an instance have, which has these kinds of components.
abbrev pub kind_among : List ClassifierId → ClassifierId → Option ClassifierId
kind_among kinds id = find (same_id id) kinds

-- the subcomponents of a component of a classifier
unfoldable pub kind_parts : List PackageUnit → ClassifierId → List Part
kind_parts packages id = parts_of packages (effective_of packages id)

-- the same where there is a classifier
abbrev pub parts_in : List PackageUnit → Option ClassifierId → List Part
parts_in packages None = []
parts_in packages (Some id) = kind_parts packages id

-- the subcomponents of a component of a classifier, if the instance has such components
abbrev pub parts_at : List PackageUnit → List ClassifierId → Option ClassifierId → List Part
parts_at packages kinds classifier = parts_in packages (option_and_then (kind_among kinds) classifier)

-- the first subcomponent of a name
abbrev pub part_named : List ℕ → List Part → Option Part
part_named name parts = find (λ part. is_same_text part.name name) parts

-- the classifier of the subcomponent of a name, if there is such a subcomponent; it may lack a classifier
abbrev pub step_below : List PackageUnit → List ClassifierId → Option ClassifierId → List ℕ → Option (Option ClassifierId)
step_below packages kinds classifier name = option_map (λ part. found part.classifier) (part_named name (parts_at packages kinds classifier))

-- The classifier of the component to which these names of subcomponents lead from a component of this classifier, if they lead
-- to one. It may lack a classifier.
abbrev pub classifier_below : List PackageUnit → List ClassifierId → Option ClassifierId → List (List ℕ) → Option (Option ClassifierId)
classifier_below packages kinds classifier [] = Some classifier
classifier_below packages kinds classifier (name ∷ names) = option_and_then (λ below. classifier_below packages kinds below names) (step_below packages kinds classifier name)

-- the states of a component of this classifier: without one it has none
abbrev pub states_named : Profile → List PackageUnit → List ClassifierId → Option ClassifierId → Option (List Sort)
states_named profile packages kinds None = Some []
states_named profile packages kinds (Some id) = option_map (λ kind. (kind_states profile packages kind).sorts) (kind_among kinds id)

-- The states of the components below a component of this classifier.
abbrev pub states_below : Profile → List PackageUnit → List ClassifierId → Option ClassifierId → StatesAt
states_below profile packages kinds classifier names = option_and_then (states_named profile packages kinds) (classifier_below packages kinds classifier names)
