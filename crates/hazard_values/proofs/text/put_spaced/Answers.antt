use Rattle.std.proofs.Common.{sym, ◌++◌, None}
use Rattle.std.specs.Option.{option_map}
use Rattle.aadl_syntax.specs.inner.Token.{shown}
use Rattle.hazard_values.specs.Texts.{spaced_after}
use Rattle.hazard_values.proofs.Left.{spaced-there}
use Rattle.hazard_values.proofs.text.put_spaced.Goals as goal

pub loop-number-preserved : goal.loop-number-preserved
loop-number-preserved c =
    spaced-there (option_map shown c.loop-number.before) c.args.tokens.now c.loop-number.number (shown c.in-Some.token) (sym c.in-Some.ensures.value) c.loop-number.text c.put_token.new.text
    (c.args.text.now ++ spaced_after None c.args.tokens.now) c.in_ok-put_token.ensures c.loop-number.invariant
