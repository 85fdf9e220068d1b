-- The effective classifier of a classifier of an index, as a function of it.
use Rattle.std.specs.Prelude.{List, [], Option, Some, None, Result, Ok, Err}
use Rattle.aadl_syntax.specs.declared.core_model.PackageUnit.{PackageUnit}
use Rattle.plain_values.specs.declared.refusal.Refusal.{Refusal}
use Rattle.package_index.specs.declared.id.ClassifierId.{ClassifierId}
use Rattle.component_extension.specs.Chain.{chain_of}
use Rattle.component_extension.specs.declared.effective.Effective.{Effective}
use Rattle.component_extension.specs.declared.effective.Members.{Members}
use Rattle.component_extension.specs.declared.error_model.Behavior.{Behavior}
use Rattle.component_extension.specs.declared.error_model.OtherItems.{OtherItems}
use Rattle.component_extension.specs.declared.error_model.Propagations.{Propagations}
use Rattle.component_extension.specs.Items.{Clause, bindings_along, braced_along, classes_of, clauses_of, gathered, machine_of, perhaps_named, point_key, spots_of}
use Rattle.component_extension.specs.Members.{Class, connections, features, members_along, subcomponents}
use Rattle.component_extension.specs.Rows.{named}

-- the members along these classifiers, of which the farthest comes first
abbrev pub members_of : List Class → Members
members_of classes = record {
  features = members_along features classes;
  subcomponents = members_along subcomponents classes;
  connections = members_along connections classes;
}

-- the points of these clauses, and what lies between them
abbrev pub propagations_of : List Clause → Propagations
propagations_of clauses = record {
  points = gathered (λ clause. clause.points) point_key clauses;
  flows = gathered (λ clause. clause.flows) (λ item. Some (named item.name)) clauses;
  user_points = gathered (λ clause. clause.user_points) (λ item. Some (named item.name)) clauses;
  user_paths = gathered (λ clause. clause.user_paths) (λ item. Some (named item.name)) clauses;
}

-- the behavior of these clauses, beside that of their machine
abbrev pub behavior_of : List Clause → Behavior
behavior_of clauses = record {
  events = gathered (λ clause. clause.events) (λ item. Some (named item.name)) clauses;
  transitions = gathered (λ clause. clause.transitions) (λ item. perhaps_named item.name) clauses;
  outgoing = gathered (λ clause. clause.outgoing) (λ item. perhaps_named item.name) clauses;
  composites = gathered (λ clause. clause.composites) (λ item. perhaps_named item.name) clauses;
}

-- what else these clauses have
abbrev pub other_items_of : List Clause → OtherItems
other_items_of clauses = record {
  associations = gathered (λ clause. clause.associations) (λ item. None) clauses;
  mappings = spots_of (λ clause. clause.mappings) clauses;
  connection_errors = spots_of (λ clause. clause.connection_errors) clauses;
}

-- the effective classifier of a chain with these clauses
abbrev pub effective_with : List ClassifierId → List Class → List Clause → Effective
effective_with chain classes clauses = record {
  chain = chain;
  members = members_of classes;
  clauses = clauses;
  machine = machine_of clauses;
  propagations = propagations_of clauses;
  behavior = behavior_of clauses;
  others = other_items_of clauses;
  bindings = bindings_along classes;
  braced = braced_along classes;
}

-- the effective classifier of a chain
abbrev pub effective_along : List PackageUnit → List ClassifierId → Effective
effective_along packages chain = effective_with chain (classes_of packages chain) (clauses_of (classes_of packages chain))

-- the chain, or none where it is refused
abbrev pub chain_or_none : Result (List ClassifierId) Refusal → List ClassifierId
chain_or_none (Ok chain) = chain
chain_or_none (Err refusal) = []

-- The effective classifier of a classifier: what it has along its chain, and nothing where its chain is refused.
unfoldable pub effective_of : List PackageUnit → ClassifierId → Effective
effective_of packages id = effective_along packages (chain_or_none (chain_of packages id))

-- nothing at all
abbrev pub no_effective : Effective
no_effective = record {
  chain = [];
  members = record { features = []; subcomponents = []; connections = [] };
  clauses = [];
  machine = None;
  propagations = record { points = []; flows = []; user_points = []; user_paths = [] };
  behavior = record { events = []; transitions = []; outgoing = []; composites = [] };
  others = record { associations = []; mappings = []; connection_errors = [] };
  bindings = [];
  braced = [];
}

-- The effective classifier of a component: that of its classifier, and nothing at all where it has none.
abbrev pub effective_at : List PackageUnit → Option ClassifierId → Effective
effective_at packages None = no_effective
effective_at packages (Some id) = effective_of packages id
