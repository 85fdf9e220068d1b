-- What is refused of the error models of an instance, by the phases of their tests. An instance is tested by its kinds, which are
-- its classifiers, each once, in the order in which they first come: what is refused of a component is refused of each component
-- of its classifier, and a component without a classifier has nothing that could be refused.
use Rattle.std.specs.Prelude.{List, [], ◌∷◌, flat_map, map, Option, Some, None, Result, Ok, Err}
use Rattle.std.specs.Option.{option_or}
use Rattle.aadl_syntax.specs.declared.core_model.PackageUnit.{PackageUnit}
use Rattle.plain_values.specs.declared.refusal.Refusal.{Refusal}
use Rattle.plain_values.specs.Order.{least}
use Rattle.plain_values.specs.Refusal.{refusal}
use Rattle.noted_refusals.specs.Groups.{first_group, or_group}
use Rattle.package_index.specs.declared.id.ClassifierId.{ClassifierId}
use Rattle.component_extension.specs.declared.effective.Effective.{Effective}
use Rattle.error_libraries.specs.Libraries.{Table}
use Rattle.propagation_points.specs.Points.{point_refusals, points_of}
use Rattle.error_flows.specs.Flows.{all_flow_refusals}
use Rattle.error_machines.specs.declared.machines.MachineId.{MachineId}
use Rattle.error_behavior.specs.Behavior.{behavior_refusals}
use Rattle.error_machines.specs.Machines.{Machine, find_machine}
use Rattle.error_machines.specs.States.{states_of}
use Rattle.composite_states.specs.Below.{StatesAt}
use Rattle.composite_states.specs.Composites.{composite_clause_refusals}
use Rattle.used_sets.specs.Used.{used_set_refusals}
use Rattle.instantiator.specs.Effectives.{effective_of}
use Rattle.error_models.specs.Below.{kind_machine, states_below}

-- the first of these, if any is there
abbrev pub first_of : List (Option Refusal) → Option Refusal
first_of [] = None
first_of (refusal ∷ refusals) = option_or refusal (first_of refusals)

-- ---- machines

-- the refusal of a look-up, if it is refused
abbrev pub fault_of : Result (Option MachineId) Refusal → Option Refusal
fault_of (Ok machine) = None
fault_of (Err refusal) = Some refusal

-- the refusal of the machine of a classifier
unfoldable pub machine_fault : List PackageUnit → ClassifierId → Option Refusal
machine_fault packages id = fault_of (find_machine packages (effective_of packages id))

-- The refusal of the machines: that of the first component whose machine is not found.
abbrev pub machines_refusal : List PackageUnit → List ClassifierId → Option Refusal
machines_refusal packages kinds = first_of (map (machine_fault packages) kinds)

-- ---- written sets

-- the refusals of the written sets that a component of this classifier uses
unfoldable pub set_refusals : Table → ClassifierId → List Refusal
set_refusals table id = used_set_refusals table (kind_machine table.packages id) (effective_of table.packages id)

-- The refusals of all written sets that are used, one group.
abbrev pub all_set_refusals : Table → List ClassifierId → List Refusal
all_set_refusals table kinds = flat_map (set_refusals table) kinds

-- ---- error models

-- The first refusal of the error model of a component, by its groups: its points, its machine, its flows and its composite states.
abbrev pub refusal_with : Table → Effective → Option Machine → StatesAt → Option Refusal
refusal_with table effective machine below =
    option_or (least (point_refusals table effective))
    (option_or (least (behavior_refusals table (points_of table effective) machine effective))
    (option_or (least (all_flow_refusals table (points_of table effective) (states_of table machine).sorts effective))
    (least (composite_clause_refusals below table (points_of table effective) (states_of table machine) effective))))

-- the same for a component of this classifier
unfoldable pub model_refusal : Table → List ClassifierId → ClassifierId → Option Refusal
model_refusal table kinds id =
    refusal_with table (effective_of table.packages id) (kind_machine table.packages id) (states_below table.profile table.packages kinds (Some id))

-- The refusal of the error models: that of the first component that has one.
abbrev pub models_refusal : Table → List ClassifierId → Option Refusal
models_refusal table kinds = first_of (map (model_refusal table kinds) kinds)

-- The group of the error model of a component: the first in which anything is refused, of its points, its machine, its flows and its
-- composite states.
abbrev pub group_with : Table → Effective → Option Machine → StatesAt → List Refusal
group_with table effective machine below =
    or_group (point_refusals table effective)
    (or_group (behavior_refusals table (points_of table effective) machine effective)
    (or_group (all_flow_refusals table (points_of table effective) (states_of table machine).sorts effective)
    (composite_clause_refusals below table (points_of table effective) (states_of table machine) effective)))

-- the same for a component of this classifier
unfoldable pub model_group : Table → List ClassifierId → ClassifierId → List Refusal
model_group table kinds id =
    group_with table (effective_of table.packages id) (kind_machine table.packages id) (states_below table.profile table.packages kinds (Some id))

-- The group of the error models: that of the first component of which anything is refused.
abbrev pub models_group : Table → List ClassifierId → List Refusal
models_group table kinds = first_group (map (model_group table kinds) kinds)
