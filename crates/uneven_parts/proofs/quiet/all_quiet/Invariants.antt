use Rattle.std.proofs.Common.{◌≡◌, take}
use Rattle.plain_values.specs.Numbered.{numbered_from}
use Rattle.uneven_parts.specs.Quiet.{quiet_in}
use Rattle.uneven_parts.proofs.quiet.all_quiet.Given as goal

abbrev pub invariant-loop-owner : goal.invariant-loop-owner
invariant-loop-owner l = l.found ≡ numbered_from (quiet_in l.all l.assembly l.facts) 0 (take l.owner l.assembly.instance.components)
