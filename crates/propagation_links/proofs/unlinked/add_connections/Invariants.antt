use Rattle.std.proofs.Common.{◌≡◌, ◌++◌, take}
use Rattle.plain_values.specs.Numbered.{numbered_from}
use Rattle.propagation_links.specs.Unlinked.{told_connection}
use Rattle.propagation_links.proofs.unlinked.add_connections.Given as goal

abbrev pub invariant-loop-place : goal.invariant-loop-place
invariant-loop-place l = l.found ≡ l.fn.found ++ numbered_from (told_connection l.pointed l.number) 0 (take l.place l.connections)
