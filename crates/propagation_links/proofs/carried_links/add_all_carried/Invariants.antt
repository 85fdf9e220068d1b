use Rattle.std.proofs.Common.{◌≡◌, ◌++◌, flat_map, take}
use Rattle.propagation_links.specs.Links.{carried_links}
use Rattle.propagation_links.proofs.carried_links.add_all_carried.Given as goal

abbrev pub invariant-loop-one : goal.invariant-loop-one
invariant-loop-one l = l.links ≡ l.fn.links ++ flat_map (carried_links l.pointed) (take l.one-index l.carried)
