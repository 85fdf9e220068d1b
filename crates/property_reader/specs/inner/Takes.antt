-- A field takes at least one token.
use Rattle.grammar_rules.specs.inner.Parts.{TakesTokens}
use Rattle.grammar_rules.proofs.Takes.{takes_first, identifier_takes}
use Rattle.property_reader.specs.Fields.{field}

pub field-takes : TakesTokens field
unfolding field
field-takes = takes_first (identifier_takes _)
