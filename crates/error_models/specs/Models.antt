-- The error model of a component: its points, its states, what happens in it, and what flows through it (EMV2).
use Rattle.std.specs.Prelude.{Bool, true, false, List, [], ◌∷◌, Option, Some}
use Rattle.aadl_syntax.specs.declared.error_model.Composite.{Composite}
use Rattle.package_index.specs.declared.id.ClassifierId.{ClassifierId}
use Rattle.component_extension.specs.declared.effective.Effective.{Effective}
use Rattle.component_extension.specs.Items.{Scoped}
use Rattle.error_libraries.specs.Libraries.{Table}
use Rattle.propagation_points.specs.Points.{points_of}
use Rattle.error_flows.specs.Flows.{flows_of, sinks_of}
use Rattle.error_behavior.specs.Behavior.{behavior_of}
use Rattle.error_machines.specs.Machines.{Machine}
use Rattle.error_machines.specs.States.{states_of}
use Rattle.composite_states.specs.Below.{StatesAt}
use Rattle.composite_states.specs.Composites.{clauses_of}
use Rattle.instantiator.specs.Effectives.{effective_of}
use Rattle.error_models.specs.declared.model.ErrorModel.{ErrorModel}
use Rattle.error_models.specs.Below.{kind_machine, states_below}

-- whether there is a clause of composite states, one of `others` included
abbrev pub is_composite : List (Scoped Composite) → Bool
is_composite [] = false
is_composite (composite ∷ composites) = true

-- the error model of a component with this effective classifier and this machine, over the states of the components below
abbrev pub model_with : Table → Effective → Option Machine → StatesAt → ErrorModel
model_with table effective machine below = record {
  points = points_of table effective;
  states = states_of table machine;
  behavior = behavior_of table (points_of table effective) machine effective;
  flows = flows_of table (points_of table effective) (states_of table machine).sorts effective;
  sinks = sinks_of table (points_of table effective) (states_of table machine).sorts effective;
  composites = clauses_of below table (points_of table effective) (states_of table machine) effective;
  is_composite = is_composite effective.behavior.composites;
}

-- The error model of a component of this classifier, in an instance of these kinds of components.
unfoldable pub model_of : Table → List ClassifierId → ClassifierId → ErrorModel
model_of table kinds id =
    model_with table (effective_of table.packages id) (kind_machine table.packages id) (states_below table.profile table.packages kinds (Some id))
