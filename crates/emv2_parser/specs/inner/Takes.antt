-- Each part of a loop of the grammar takes at least one token.
use Rattle.std.specs.Prelude.{List}
use Rattle.grammar_rules.specs.inner.Parts.{TakesTokens}
use Rattle.grammar_rules.proofs.Takes.{takes_first, takes_after, takes_either, word_takes, sign_takes, identifier_takes}
use Rattle.emv2_parts.specs.Names.{error_name}
use Rattle.aadl_syntax.specs.declared.error_model.StateRef.{StateRef}
use Rattle.aadl_syntax.specs.declared.error_model.MachineDecl.{MachineDecl}
use Rattle.emv2_parts.specs.Types.{types_block}
use Rattle.emv2_parser.specs.Machines.{event, events_after, state, states_after, source, transition, transitions_after, further_branch, use_transformations, machine_uses, machine_transforms, machine_events, machine_states, machine_transitions, machine_properties, machine_use, machine_other, machine_block, machine}
use Rattle.emv2_parser.specs.Propagations.{point_item, flow, propagations_head, clause_propagations}
use Rattle.emv2_parser.specs.Behavior.{outgoing, composite, composite_rule, composite_condition, component_transforms, component_events, component_transitions, outgoing_after, component_outgoing, detections, mode_mappings, component_other, component_block, component_head, clause_component, composite_head, clause_composites, connection_errors, clause_connection, user_item, paths_head, clause_paths}
use Rattle.emv2_parser.specs.Grammar.{type_mapping, library_types, library_machine, library_mapping, library_block, clause_uses, used_machine, clause_machine, used_mapping, clause_mapping, clause_use, clause_properties, clause_other, clause_behavior, clause_part}
use Rattle.aadl_syntax.specs.declared.error_model.Emv2Clause.{Emv2Clause}
use Rattle.aadl_syntax.specs.declared.error_model.Emv2Library.{Emv2Library}
use Rattle.emv2_parts.specs.inner.Takes.{point-takes, properties-takes, state_reference-takes, use_types-takes}

pub event-takes : TakesTokens event
unfolding event error_name
event-takes = takes_after (λ at. takes_first (identifier_takes _))

pub state-takes : TakesTokens state
unfolding state error_name
state-takes = takes_after (λ at. takes_first (identifier_takes _))

source-takes : TakesTokens source
unfolding source
source-takes = takes_after (λ at. takes_either _ (takes_first (word_takes _)) (takes_first state_reference-takes))

pub transition-takes : TakesTokens transition
unfolding transition
transition-takes = takes_after (λ at. takes_after (λ name. takes_first source-takes))

pub further_branch-takes : (targets : List StateRef) → TakesTokens (further_branch targets)
unfolding further_branch
further_branch-takes targets = takes_first (sign_takes _)

use_transformations-takes : TakesTokens use_transformations
unfolding use_transformations
use_transformations-takes = takes_after (λ at. takes_first (word_takes _))

pub machine_block-takes : (machine : MachineDecl) → TakesTokens (machine_block machine)
unfolding machine_block machine_use machine_other machine_uses machine_transforms machine_events machine_states machine_transitions machine_properties events_after states_after transitions_after
machine_block-takes m = takes_either _ (takes_either _ (takes_first (use_types-takes _)) (takes_first use_transformations-takes)) (takes_either _ (takes_first (takes_first (word_takes _))) (takes_either _ (takes_first (takes_first (word_takes _))) (takes_either _ (takes_first (takes_first (word_takes _))) (takes_first (properties-takes _)))))

pub point_item-takes : TakesTokens point_item
unfolding point_item
point_item-takes = takes_first point-takes

pub flow-takes : TakesTokens flow
unfolding flow error_name
flow-takes = takes_after (λ at. takes_first (identifier_takes _))

pub outgoing-takes : TakesTokens outgoing
unfolding outgoing
outgoing-takes = takes_after (λ at. takes_after (λ name. takes_first source-takes))

pub composite-takes : TakesTokens composite
unfolding composite composite_rule composite_condition
composite-takes = takes_after (λ at. takes_after (λ name. takes_first (takes_first (takes_first (sign_takes _)))))

pub component_block-takes : (clause : Emv2Clause) → TakesTokens (component_block clause)
unfolding component_block component_other component_transforms component_events component_transitions component_outgoing outgoing_after detections mode_mappings events_after transitions_after
component_block-takes clause = takes_either _ (takes_first use_transformations-takes) (takes_either _ (takes_first (takes_first (word_takes _))) (takes_either _ (takes_first (takes_first (word_takes _))) (takes_either _ (takes_first (takes_first (word_takes _))) (takes_either _ (takes_first (word_takes _)) (takes_first (word_takes _))))))

pub user_item-takes : (clause : Emv2Clause) → TakesTokens (user_item clause)
unfolding user_item error_name
user_item-takes clause = takes_after (λ at. takes_first (identifier_takes _))

pub library_block-takes : (library : Emv2Library) → TakesTokens (library_block library)
unfolding library_block library_types library_machine library_mapping types_block machine type_mapping
library_block-takes library = takes_either _ (takes_first (takes_first (word_takes _))) (takes_either _ (takes_first (takes_first (word_takes _))) (takes_first (takes_first (word_takes _))))

clause_use-takes : (clause : Emv2Clause) → TakesTokens (clause_use clause)
unfolding clause_use clause_uses clause_machine used_machine clause_mapping used_mapping
clause_use-takes clause = takes_either _ (takes_first (use_types-takes _)) (takes_either _ (takes_first (takes_first (word_takes _))) (takes_first (takes_after (λ at. takes_first (word_takes _)))))

clause_other-takes : (clause : Emv2Clause) → TakesTokens (clause_other clause)
unfolding clause_other clause_connection connection_errors clause_paths paths_head clause_properties
clause_other-takes clause = takes_either _ (takes_first (takes_after (λ at. takes_first (word_takes _)))) (takes_either _ (takes_first (takes_first (word_takes _))) (takes_first (properties-takes _)))

clause_behavior-takes : (clause : Emv2Clause) → TakesTokens (clause_behavior clause)
unfolding clause_behavior clause_component component_head clause_composites composite_head
clause_behavior-takes clause = takes_either _ (takes_first (takes_first (word_takes _))) (takes_either _ (takes_first (takes_first (word_takes _))) (clause_other-takes clause))

pub clause_part-takes : (clause : Emv2Clause) → TakesTokens (clause_part clause)
unfolding clause_part clause_propagations propagations_head
clause_part-takes clause = takes_either _ (clause_use-takes clause) (takes_either _ (takes_first (takes_first (word_takes _))) (clause_behavior-takes clause))
