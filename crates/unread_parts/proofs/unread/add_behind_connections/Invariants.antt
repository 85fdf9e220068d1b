use Rattle.std.proofs.Common.{◌≡◌, ◌++◌, flat_map, take}
use Rattle.aadl_syntax.specs.declared.core_model.Connection.{Connection}
use Rattle.unread_parts.specs.Unread.{told_braces}
use Rattle.unread_parts.proofs.unread.add_behind_connections.Given as goal

abbrev pub invariant-loop-connection : goal.invariant-loop-connection
invariant-loop-connection l = l.parts ≡ l.fn.parts ++ flat_map (λ (connection : Connection). told_braces l.what l.number connection.spot.file connection.name connection.tail) (take l.connection-index l.connections)
