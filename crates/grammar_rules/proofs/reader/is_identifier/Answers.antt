use Rattle.std.proofs.Common.{arith}
use Rattle.std.proofs.lemmas.Grind.{common_steps}
use Rattle.grammar_rules.specs.Tokens.{is_identifier}
use Rattle.grammar_rules.proofs.Words.{among_map}
use Rattle.grammar_rules.proofs.reader.is_identifier.Goals as goal

pub returns-then-eq-clause-value : goal.returns-then-eq-clause-value
unfolding is_identifier
returns-then-eq-clause-value c = rw (← among_map c.args.token.now.text.now c.args.reserved.now) (grind (arith, common_steps))
