use Rattle.std.proofs.Common.{◌≡◌, ◌++◌, take}
use Rattle.std.specs.List.{flat_map}
use Rattle.probability_lines.specs.Gathered.{event_lines}
use Rattle.probability_lines.proofs.gathered.add_events.Given as goal

abbrev pub invariant-loop-its : goal.invariant-loop-its
invariant-loop-its l = l.lines ≡ l.fn.lines ++ flat_map (event_lines l.system) (take l.its-index l.fn.importances)
