use Rattle.std.proofs.Common.{◌≡◌, map, take}
use Rattle.requirement_names.specs.Groups.{group_events}
use Rattle.requirement_names.proofs.groups.all_group_events.Given as goal

abbrev pub invariant-loop-group : goal.invariant-loop-group
invariant-loop-group l = l.sets ≡ map (group_events l.system) (take l.group-index l.groups)
