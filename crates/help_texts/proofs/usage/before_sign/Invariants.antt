use Rattle.std.proofs.Common.{◌≡◌, ◌++◌, take, drop}
use Rattle.help_texts.specs.inner.Usage.{before_sign}
use Rattle.help_texts.proofs.usage.before_sign.Given as goal

abbrev pub invariant-loop-number : goal.invariant-loop-number
invariant-loop-number l = before_sign l.sign l.text ≡ take l.number l.text ++ before_sign l.sign (drop l.number l.text)
