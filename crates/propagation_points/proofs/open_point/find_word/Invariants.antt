use Rattle.std.proofs.Common.{◌≡◌, false, take}
use Rattle.std.specs.List.{list_any}
use Rattle.propagation_points.specs.Points.{stands_for}
use Rattle.propagation_points.proofs.open_point.find_word.Given as goal

abbrev pub invariant-loop-propagation : goal.invariant-loop-propagation
invariant-loop-propagation l = list_any (stands_for l.word) (take l.propagation-index l.propagations) ≡ false
