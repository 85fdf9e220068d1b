use Rattle.std.proofs.Common.{◌≡◌, ◌++◌, take}
use Rattle.component_extension.proofs.error_model.add_spots.Given as goal

abbrev pub invariant-loop-spot : goal.invariant-loop-spot
invariant-loop-spot l = l.spots ≡ l.fn.spots ++ take l.spot-index l.more
