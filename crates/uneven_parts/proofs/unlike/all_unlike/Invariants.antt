use Rattle.std.proofs.Common.{◌≡◌, take}
use Rattle.plain_values.specs.Numbered.{numbered_from}
use Rattle.uneven_parts.specs.Unlike.{unlike_in}
use Rattle.uneven_parts.proofs.unlike.all_unlike.Given as goal

abbrev pub invariant-loop-number : goal.invariant-loop-number
invariant-loop-number l = l.found ≡ numbered_from (unlike_in l.parts l.system l.keys) 0 (take l.number l.facts)
