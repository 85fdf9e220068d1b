use Rattle.std.proofs.Common.{◌≡◌, ◌++◌, flat_map, take}
use Rattle.bindings.specs.Bindings.{braced_bindings}
use Rattle.component_extension.proofs.bound.add_of_connections.Given as goal

abbrev pub invariant-loop-connection : goal.invariant-loop-connection
invariant-loop-connection l =
    l.bindings ≡ l.fn.bindings ++ flat_map (λ connection. braced_bindings connection.spot.file connection.name connection.tail) (take l.connection-index l.connections)
