use Rattle.std.proofs.Common.{◌≡◌, ◌++◌, flat_map, take}
use Rattle.propagation_links.specs.Links.{bound_links}
use Rattle.propagation_links.proofs.bound_links.add_all_bound.Given as goal

abbrev pub invariant-loop-bound : goal.invariant-loop-bound
invariant-loop-bound l = l.links ≡ l.fn.links ++ flat_map (bound_links l.pointed l.itself) (take l.bound-index l.bounds)
