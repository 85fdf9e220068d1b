-- An effective classifier is what the function of its classifier gives.
use Rattle.std.proofs.Common.{◌≡◌, List, sym, ap, ◌∙◌}
use Rattle.aadl_syntax.specs.declared.core_model.PackageUnit.{PackageUnit}
use Rattle.package_index.specs.declared.id.ClassifierId.{ClassifierId}
use Rattle.component_extension.specs.Chain.{chain_of}
use Rattle.component_extension.specs.declared.effective.Effective.{Effective}
use Rattle.component_extension.specs.declared.effective.Members.{Members}
use Rattle.component_extension.specs.declared.error_model.Behavior.{Behavior}
use Rattle.component_extension.specs.declared.error_model.OtherItems.{OtherItems}
use Rattle.component_extension.specs.declared.error_model.Propagations.{Propagations}
use Rattle.component_extension.specs.inner.Effective.{AreMembers, AreOtherItems, ArePropagations, IsBehavior, IsEffective}
use Rattle.component_extension.specs.Items.{Clause, classes_of, machine_of}
use Rattle.component_extension.specs.Members.{Class}
use Rattle.instantiator.specs.Effectives.{behavior_of, chain_or_none, effective_along, effective_of, members_of, other_items_of, propagations_of}

members-are : (classes : List Class) (made : Members) → AreMembers classes made → made ≡ members_of classes
members-are classes made is = λ i. record { features = is.features i; subcomponents = is.subcomponents i; connections = is.connections i }

propagations-are : (clauses : List Clause) (made : Propagations) → ArePropagations clauses made → made ≡ propagations_of clauses
propagations-are clauses made is = λ i. record { points = is.points i; flows = is.flows i; user_points = is.user_points i; user_paths = is.user_paths i }

behavior-is : (clauses : List Clause) (made : Behavior) → IsBehavior clauses made → made ≡ behavior_of clauses
behavior-is clauses made is = λ i. record { events = is.events i; transitions = is.transitions i; outgoing = is.outgoing i; composites = is.composites i }

other_items-are : (clauses : List Clause) (made : OtherItems) → AreOtherItems clauses made → made ≡ other_items_of clauses
other_items-are clauses made is = λ i. record { associations = is.associations i; mappings = is.mappings i; connection_errors = is.connection_errors i }

module _ (packages : List PackageUnit) (id : ClassifierId) (made : Effective) (is : IsEffective packages id made) where
  along : made ≡ effective_along packages made.chain
  along =
      let members : made.members ≡ members_of (classes_of packages made.chain) = members-are (classes_of packages made.chain) made.members is.members in
      let machine = is.machine ∙ ap machine_of is.clauses in
      let propagations : made.propagations ≡ propagations_of made.clauses = propagations-are made.clauses made.propagations is.propagations in
      let behavior : made.behavior ≡ behavior_of made.clauses = behavior-is made.clauses made.behavior is.behavior in
      let others : made.others ≡ other_items_of made.clauses = other_items-are made.clauses made.others is.others in
      let all_propagations = propagations ∙ ap propagations_of is.clauses in
      let all_behavior = behavior ∙ ap behavior_of is.clauses in
      let all_others = others ∙ ap other_items_of is.clauses in
      λ i. record {
        chain = made.chain;
        members = members i;
        clauses = is.clauses i;
        machine = machine i;
        propagations = all_propagations i;
        behavior = all_behavior i;
        others = all_others i;
        bindings = is.bindings i;
        braced = is.braced i;
      }

  pub effective-is : made ≡ effective_of packages id
  unfolding effective_of
  effective-is =
      let chain : made.chain ≡ chain_or_none (chain_of packages id) = ap chain_or_none (sym is.chain) in
      along ∙ ap (effective_along packages) chain
