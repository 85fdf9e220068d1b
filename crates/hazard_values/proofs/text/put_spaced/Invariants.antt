use Rattle.std.proofs.Common.{◌≡◌, ◌++◌, drop, None}
use Rattle.std.specs.Option.{option_map}
use Rattle.aadl_syntax.specs.inner.Token.{shown}
use Rattle.hazard_values.specs.Texts.{spaced_after}
use Rattle.hazard_values.proofs.text.put_spaced.Given as goal

abbrev pub invariant-loop-number : goal.invariant-loop-number
invariant-loop-number l = l.text ++ spaced_after (option_map shown l.before) (drop l.number l.tokens) ≡ l.fn.text ++ spaced_after None l.tokens
