-- The effective classifier: what a classifier has once its extensions are followed.
use Rattle.std.specs.Prelude.{◌≡◌, List, None, Some, Ok}
use Rattle.aadl_syntax.specs.declared.core_model.PackageUnit.{PackageUnit}
use Rattle.package_index.specs.declared.id.ClassifierId.{ClassifierId}
use Rattle.component_extension.specs.Chain.{chain_of}
use Rattle.component_extension.specs.declared.effective.Effective.{Effective}
use Rattle.component_extension.specs.declared.effective.Members.{Members}
use Rattle.component_extension.specs.declared.error_model.Behavior.{Behavior}
use Rattle.component_extension.specs.declared.error_model.OtherItems.{OtherItems}
use Rattle.component_extension.specs.declared.error_model.Propagations.{Propagations}
use Rattle.component_extension.specs.Items.{Clause, bindings_along, braced_along, classes_of, clauses_of, gathered, machine_of, perhaps_named, point_key, spots_of}
use Rattle.component_extension.specs.Members.{Class, connections, features, members_along, subcomponents}
use Rattle.component_extension.specs.Rows.{named}

-- These are the members along these classifiers, of which the farthest comes first.
pub record AreMembers (classes : List Class) (made : Members) : Type 0 where
  pub features : made.features ≡ members_along features classes
  pub subcomponents : made.subcomponents ≡ members_along subcomponents classes
  pub connections : made.connections ≡ members_along connections classes

-- These are the points of these clauses, and what lies between them.
pub record ArePropagations (clauses : List Clause) (made : Propagations) : Type 0 where
  pub points : made.points ≡ gathered (λ clause. clause.points) point_key clauses
  pub flows : made.flows ≡ gathered (λ clause. clause.flows) (λ item. Some (named item.name)) clauses
  pub user_points : made.user_points ≡ gathered (λ clause. clause.user_points) (λ item. Some (named item.name)) clauses
  pub user_paths : made.user_paths ≡ gathered (λ clause. clause.user_paths) (λ item. Some (named item.name)) clauses

-- This is the behavior of these clauses, beside that of their machine.
pub record IsBehavior (clauses : List Clause) (made : Behavior) : Type 0 where
  pub events : made.events ≡ gathered (λ clause. clause.events) (λ item. Some (named item.name)) clauses
  pub transitions : made.transitions ≡ gathered (λ clause. clause.transitions) (λ item. perhaps_named item.name) clauses
  pub outgoing : made.outgoing ≡ gathered (λ clause. clause.outgoing) (λ item. perhaps_named item.name) clauses
  pub composites : made.composites ≡ gathered (λ clause. clause.composites) (λ item. perhaps_named item.name) clauses

-- This is what else these clauses have: all their property associations, uses of mappings and connection errors.
pub record AreOtherItems (clauses : List Clause) (made : OtherItems) : Type 0 where
  pub associations : made.associations ≡ gathered (λ clause. clause.associations) (λ item. None) clauses
  pub mappings : made.mappings ≡ spots_of (λ clause. clause.mappings) clauses
  pub connection_errors : made.connection_errors ≡ spots_of (λ clause. clause.connection_errors) clauses

-- This is the effective classifier of a classifier of the index.
pub record IsEffective (packages : List PackageUnit) (id : ClassifierId) (made : Effective) : Type 0 where
  pub chain : chain_of packages id ≡ Ok made.chain
  pub members : AreMembers (classes_of packages made.chain) made.members
  pub clauses : made.clauses ≡ clauses_of (classes_of packages made.chain)
  pub machine : made.machine ≡ machine_of made.clauses
  pub propagations : ArePropagations made.clauses made.propagations
  pub behavior : IsBehavior made.clauses made.behavior
  pub others : AreOtherItems made.clauses made.others
  pub bindings : made.bindings ≡ bindings_along (classes_of packages made.chain)
  pub braced : made.braced ≡ braced_along (classes_of packages made.chain)
