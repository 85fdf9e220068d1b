use Rattle.std.proofs.Common.{◌≡◌, ◌+◌, map, drop}
use Rattle.round_gates.specs.Walks.{places, total}
use Rattle.round_gates.proofs.limits.+places.Given as goal

abbrev pub invariant-take_all_places-loop-part : goal.invariant-take_all_places-loop-part
invariant-take_all_places-loop-part l = l.rest + total (map places l.parts) ≡ l.left + total (map places (drop l.part-index l.parts))
