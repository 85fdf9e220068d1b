use Rattle.std.proofs.Common.{◌≡◌, ◌++◌, flat_map, take}
use Rattle.propagation_links.specs.Links.{path_links}
use Rattle.propagation_links.proofs.links.add_paths.Given as goal

abbrev pub invariant-loop-path : goal.invariant-loop-path
invariant-loop-path l = l.links ≡ l.fn.links ++ flat_map (path_links l.pointed l.number) (take l.path-index l.paths)
