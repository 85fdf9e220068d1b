use Rattle.std.proofs.Common.{◌≡◌, filter}
use Rattle.plain_values.specs.Numbered.{numbers_below}
use Rattle.requirement_names.specs.Sets.{has_one_of}
use Rattle.requirement_names.proofs.sets.events_of.Given as goal

abbrev pub invariant-loop-number : goal.invariant-loop-number
invariant-loop-number l = l.events ≡ filter (has_one_of l.system l.parts) (numbers_below l.number)
