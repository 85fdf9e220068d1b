use Rattle.std.proofs.Common.{◌≡◌, ◌++◌, flat_map, take}
use Rattle.propagation_links.specs.Links.{connection_links}
use Rattle.propagation_links.proofs.links.add_connections.Given as goal

abbrev pub invariant-loop-connection : goal.invariant-loop-connection
invariant-loop-connection l = l.links ≡ l.fn.links ++ flat_map (connection_links l.pointed l.number) (take l.connection-index l.connections)
