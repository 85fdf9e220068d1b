use Rattle.std.proofs.Common.{◌≡◌, take}
use Rattle.unread_parts.specs.Unread.{joined}
use Rattle.unread_parts.proofs.rates.joined.Given as goal

abbrev pub invariant-loop-number : goal.invariant-loop-number
invariant-loop-number l = l.text.items ≡ joined (take l.number l.tokens)
