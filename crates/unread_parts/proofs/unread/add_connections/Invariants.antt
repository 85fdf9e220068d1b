use Rattle.std.proofs.Common.{◌≡◌, ◌++◌, flat_map, take}
use Rattle.unread_parts.specs.Unread.{modal_connection}
use Rattle.unread_parts.proofs.unread.add_connections.Given as goal

abbrev pub invariant-loop-member : goal.invariant-loop-member
invariant-loop-member l = l.parts ≡ l.fn.parts ++ flat_map (modal_connection l.number) (take l.member-index l.members)
