use Rattle.std.proofs.Common.{◌≡◌, take}
use Rattle.plain_values.specs.Numbered.{numbered_from}
use Rattle.uneven_parts.specs.Quiet.{given_in}
use Rattle.uneven_parts.proofs.quiet.given.Given as goal

abbrev pub invariant-loop-number : goal.invariant-loop-number
invariant-loop-number l = l.given ≡ numbered_from (given_in l.keys) 0 (take l.number l.facts)
