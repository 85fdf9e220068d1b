use Rattle.std.proofs.Common.{◌≡◌, ◌++◌, take}
use Rattle.std.specs.List.{flat_map}
use Rattle.probability_lines.specs.Gathered.{unrated_at}
use Rattle.probability_lines.proofs.gathered.add_all_unrated.Given as goal

abbrev pub invariant-loop-number : goal.invariant-loop-number
invariant-loop-number l = l.lines ≡ l.fn.lines ++ flat_map (unrated_at l.system l.found) (take l.number-index l.fn.events)
