-- Each part of a loop of the grammar takes at least one token.
use Rattle.std.specs.Prelude.{ℕ, List}
use Rattle.aadl_syntax.specs.declared.core_model.Decl.{Decl}
use Rattle.aadl_syntax.specs.declared.core_model.PackageUnit.{PackageUnit}
use Rattle.grammar_rules.specs.inner.Parts.{TakesTokens}
use Rattle.grammar_rules.proofs.Takes.{takes_takes, takes_first, takes_after, takes_either, word_takes, sign_takes, identifier_takes, one_of_takes}
use Rattle.aadl_parser.specs.Words.{any_of}
use Rattle.aadl_parser.specs.Names.{core_name, further_name, further_names, dotted_name, with_packages, category, grouped_category, virtual_category, single_category}
use Rattle.aadl_parser.specs.Features.{feature, features_after}
use Rattle.aadl_parser.specs.Subcomponents.{subcomponent, subcomponents_after}
use Rattle.aadl_parser.specs.Connections.{connection, connections_after}
use Rattle.aadl_parser.specs.Annexes.{clause_annex, library_annex}
use Rattle.aadl_parser.specs.Classifiers.{features_section, subcomponents_section, connections_section, annex_section, prototypes, prototypes_section, properties_section, required_modes, inner_features, skipped, skipped_part, skipped_section, other_section, section, classifier, group_type}
use Rattle.aadl_parser.specs.Aliases.{named_alias, unnamed_alias}
use Rattle.aadl_parser.specs.Packages.{named_alias_part, unnamed_alias_part, classifier_part, annex_part, with_part, group_part, other_declaration, declaration, package_unit, property_set_head, property_set, unit}

pub further_name-takes : TakesTokens further_name
unfolding further_name
further_name-takes = takes_first (sign_takes _)

pub further_names-takes : TakesTokens further_names
unfolding further_names
further_names-takes = takes_first (sign_takes _)

pub dotted_name-takes : TakesTokens dotted_name
unfolding dotted_name
dotted_name-takes = takes_first (sign_takes _)

any_of-takes : (words : List (List ℕ)) → TakesTokens (any_of words)
unfolding any_of
any_of-takes words = takes_takes _

pub feature-takes : TakesTokens feature
unfolding feature core_name
feature-takes = takes_after (λ at. takes_first (identifier_takes _))

pub subcomponent-takes : TakesTokens subcomponent
unfolding subcomponent core_name
subcomponent-takes = takes_after (λ at. takes_first (identifier_takes _))

pub connection-takes : TakesTokens connection
unfolding connection core_name
connection-takes = takes_after (λ at. takes_first (identifier_takes _))

other_section-takes : (decl : Decl) → TakesTokens (other_section decl)
unfolding other_section annex_section clause_annex prototypes_section prototypes properties_section skipped_section skipped_part required_modes inner_features skipped
other_section-takes decl = takes_either _ (takes_first (takes_first (word_takes _))) (takes_either _ (takes_first (takes_after (λ at. takes_first (word_takes _))))
    (takes_either _ (takes_first (word_takes _)) (takes_first (takes_either _ (takes_first (word_takes _)) (takes_either _ (takes_first (any_of-takes _)) (takes_first (any_of-takes _)))))))

pub section-takes : (decl : Decl) → TakesTokens (section decl)
unfolding section features_section features_after subcomponents_section subcomponents_after connections_section connections_after
section-takes decl = takes_either _ (takes_first (takes_first (word_takes _))) (takes_either _ (takes_first (takes_first (word_takes _))) (takes_either _ (takes_first (takes_first (word_takes _))) (other_section-takes decl)))

category-takes : TakesTokens category
unfolding category grouped_category virtual_category single_category
category-takes = takes_either _ (takes_first (one_of_takes _)) (takes_either _ (takes_first (one_of_takes _)) (takes_first (one_of_takes _)))

other_declaration-takes : (whole : PackageUnit) → TakesTokens (other_declaration whole)
unfolding other_declaration group_part group_type annex_part library_annex classifier_part classifier
other_declaration-takes whole = takes_either _ (takes_first (takes_first (word_takes _))) (takes_either _ (takes_first (takes_first (word_takes _))) (takes_first (takes_first category-takes)))

pub declaration-takes : (whole : PackageUnit) → TakesTokens (declaration whole)
unfolding declaration named_alias_part named_alias core_name unnamed_alias_part unnamed_alias with_part with_packages
declaration-takes whole = takes_either _ (takes_first (takes_after (λ at. takes_first (identifier_takes _)))) (takes_either _ (takes_first (takes_first (word_takes _))) (takes_either _ (takes_first (takes_first (word_takes _))) (other_declaration-takes whole)))

pub unit-takes : TakesTokens unit
unfolding unit property_set property_set_head package_unit
unit-takes = takes_either _ (takes_first (takes_first (word_takes _))) (takes_first (word_takes _))
