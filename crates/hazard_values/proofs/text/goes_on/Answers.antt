use Rattle.std.proofs.Common.{sym, ◌∙◌}
use Rattle.aadl_syntax.specs.inner.Token.{shown}
use Rattle.hazard_values.proofs.Left.{ends-there, goes-on-there}
use Rattle.hazard_values.proofs.text.goes_on.Goals as goal

pub returns-then-not-begins_at : goal.returns-then-not-begins_at
returns-then-not-begins_at c =
    sym (ends-there c.loop-number.end c.args.tokens.now c.loop-number.number (shown c.in-Some.token) (sym c.in-Some.ensures.value) (sym c.if-not-begins_at.ensures)) ∙ c.loop-number.invariant

pub loop-number-preserved : goal.loop-number-preserved
loop-number-preserved c =
    sym (goes-on-there c.loop-number.end c.args.tokens.now c.loop-number.number (shown c.in-Some.token) (sym c.in-Some.ensures.value) (sym c.if-not-begins_at.ensures)) ∙ c.loop-number.invariant
