-- The further parts of a binding take at least one token.
use Rattle.grammar_rules.specs.inner.Parts.{TakesTokens}
use Rattle.grammar_rules.proofs.Takes.{takes_first, sign_takes}
use Rattle.bindings.specs.Bindings.{dotted_name, further_path, further_reference}

pub dotted_name-takes : TakesTokens dotted_name
unfolding dotted_name
dotted_name-takes = takes_first (sign_takes _)

pub further_path-takes : TakesTokens further_path
unfolding further_path
further_path-takes = takes_first (sign_takes _)

pub further_reference-takes : TakesTokens further_reference
unfolding further_reference
further_reference-takes = takes_first (sign_takes _)
