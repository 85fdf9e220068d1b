use Rattle.std.proofs.Common.{◌≡◌, filter}
use Rattle.plain_values.specs.Numbered.{numbers_below}
use Rattle.requirement_names.specs.Groups.{is_in_group}
use Rattle.requirement_names.proofs.groups.events_below.Given as goal

abbrev pub invariant-loop-number : goal.invariant-loop-number
invariant-loop-number l = l.events ≡ filter (is_in_group l.system l.kind l.members) (numbers_below l.number)
