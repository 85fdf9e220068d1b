-- A field, a further record and a further item take at least one token.
use Rattle.grammar_rules.specs.inner.Parts.{TakesTokens}
use Rattle.grammar_rules.proofs.Takes.{takes_first, identifier_takes, sign_takes}
use Rattle.hazard_values.specs.Records.{field, further_record}
use Rattle.hazard_values.specs.Texts.{further_item}

pub field-takes : TakesTokens field
unfolding field
field-takes = takes_first (identifier_takes _)

pub further_record-takes : TakesTokens further_record
unfolding further_record
further_record-takes = takes_first (sign_takes _)

pub further_item-takes : TakesTokens further_item
unfolding further_item
further_item-takes = takes_first (sign_takes _)
