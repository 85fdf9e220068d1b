use Rattle.std.proofs.Common.{ℕ, Err, ap, ◌∙◌}
use Rattle.plain_values.specs.declared.refusal.Stop.{Stop}
use Rattle.plain_values.specs.declared.refusal.Stop.TheVariants.{Refused}
use Rattle.grammar_rules.specs.Texts.{token_place}
use Rattle.aadl_parser.specs.Files.{too_nested}
use Rattle.aadl_parser.proofs.Depths.{not_nested, one_nested}
use Rattle.aadl_parser.proofs.text.units.Goals as goal

pub returns-in-Some-clause-only : goal.returns-in-Some-clause-only
returns-in-Some-clause-only c = λ shallow value r. absurd (not_nested shallow c.in-Some.ensures)

pub returns-in-Some-clause-nested : goal.returns-in-Some-clause-nested
returns-in-Some-clause-nested c = λ number n.
    ap (λ (stop : Stop). Err stop) (c.nesting_error.ensures ∙ ap (λ (k : ℕ). Refused (too_nested c.args.file (token_place c.args.tokens.now c.args.end k))) (one_nested c.in-Some.ensures n))

pub returns-clause-nested : goal.returns-clause-nested
returns-clause-nested c = λ number n. absurd (not_nested c.in_default.ensures n)
