use Rattle.std.proofs.Common.{◌≡◌, drop, flat_map}
use Rattle.noted_refusals.specs.inner.Noted.{noting}
use Rattle.propagation_links.specs.Refused.{connection_refusals}
use Rattle.propagation_links.proofs.refused.note_connections.Given as goal

abbrev pub invariant-loop-connection : goal.invariant-loop-connection
invariant-loop-connection l =
    noting l.refusals (flat_map (connection_refusals l.pointed l.number) (drop l.connection-index l.connections)) ≡ noting l.fn.refusals (flat_map (connection_refusals l.pointed l.number) l.connections)
