use Rattle.std.proofs.Common.{◌≡◌, ◌++◌, flat_map, take}
use Rattle.propagation_links.specs.Bound.{carried_by}
use Rattle.propagation_links.proofs.carried.add_connections.Given as goal

abbrev pub invariant-loop-connection : goal.invariant-loop-connection
invariant-loop-connection l = l.carried ≡ l.fn.carried ++ flat_map (carried_by l.tables l.number) (take l.connection-index l.connections)
