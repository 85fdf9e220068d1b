-- Each part of a loop of the grammar takes at least one token.
use Rattle.std.specs.Prelude.{List}
use Rattle.aadl_syntax.specs.declared.place.Ref.{Ref}
use Rattle.grammar_rules.specs.Rules.{Rule}
use Rattle.grammar_rules.specs.inner.Parts.{TakesTokens}
use Rattle.grammar_rules.proofs.Takes.{takes_first, takes_after, takes_either, word_takes, sign_takes, identifier_takes, one_of_takes}
use Rattle.aadl_syntax.specs.declared.error_model.Condition.{Condition}
use Rattle.emv2_parts.specs.declared.properties.AssignedTargets.{AssignedTargets}
use Rattle.emv2_parts.specs.declared.properties.TargetPath.{TargetPath}
use Rattle.emv2_parts.specs.Names.{error_name, names, point, point_word, dotted_names, state_reference, further_name, further_reference, use_types_after, dotted_name, factor, further_term}
use Rattle.emv2_parts.specs.Properties.{path_sign, path_step, further_target, association, properties_after}
use Rattle.aadl_syntax.specs.declared.error_model.Association.{Association}
use Rattle.emv2_parts.specs.Types.{type_item}
use Rattle.emv2_parts.specs.Conditions.{and_primary, or_conjunction, further_condition}

pub further_name-takes : TakesTokens further_name
unfolding further_name
further_name-takes = takes_first (sign_takes _)

pub further_reference-takes : TakesTokens further_reference
unfolding further_reference
further_reference-takes = takes_first (sign_takes _)

pub use_types-takes : (uses : List Ref) → TakesTokens (use_types_after uses)
unfolding use_types_after
use_types-takes uses = takes_first (word_takes _)

pub dotted_name-takes : TakesTokens dotted_name
unfolding dotted_name
dotted_name-takes = takes_first (sign_takes _)

pub factor-takes : TakesTokens factor
unfolding factor
factor-takes = takes_first (sign_takes _)

pub further_term-takes : TakesTokens further_term
unfolding further_term
further_term-takes = takes_first (sign_takes _)

pub path_step-takes : (path : TargetPath) → TakesTokens (path_step path)
unfolding path_step path_sign error_name
path_step-takes path = takes_either _ (takes_first (identifier_takes _)) (takes_either _ (takes_first (one_of_takes _)) (takes_either _ (takes_first (sign_takes _)) (takes_either _ (takes_first (sign_takes _)) (takes_first (sign_takes _)))))

pub further_target-takes : (targets : AssignedTargets) → TakesTokens (further_target targets)
unfolding further_target
further_target-takes targets = takes_first (sign_takes _)

pub names-takes : TakesTokens names
unfolding names error_name
names-takes = takes_first (identifier_takes _)

pub association-takes : TakesTokens association
unfolding association
association-takes = takes_after (λ at. takes_first names-takes)

pub and_primary-takes : (inner : Rule Condition) → TakesTokens (and_primary inner)
unfolding and_primary
and_primary-takes inner = takes_first (word_takes _)

pub or_conjunction-takes : (inner : Rule Condition) → TakesTokens (or_conjunction inner)
unfolding or_conjunction
or_conjunction-takes inner = takes_first (word_takes _)

pub further_condition-takes : (inner : Rule Condition) → TakesTokens (further_condition inner)
unfolding further_condition
further_condition-takes inner = takes_first (sign_takes _)

pub type_item-takes : TakesTokens type_item
unfolding type_item error_name
type_item-takes = takes_after (λ at. takes_first (identifier_takes _))

pub state_reference-takes : TakesTokens state_reference
unfolding state_reference error_name
state_reference-takes = takes_after (λ at. takes_first (identifier_takes _))

pub properties-takes : (associations : List Association) → TakesTokens (properties_after associations)
unfolding properties_after
properties-takes associations = takes_first (word_takes _)

pub point-takes : TakesTokens point
unfolding point point_word dotted_names error_name
point-takes = takes_after (λ at. takes_first (takes_either _ (takes_first (one_of_takes _)) (takes_first (identifier_takes _))))
