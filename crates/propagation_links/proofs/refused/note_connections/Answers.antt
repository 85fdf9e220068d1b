use Rattle.noted_refusals.proofs.Loops.{noting-more}
use Rattle.propagation_links.specs.Refused.{connection_refusals}
use Rattle.propagation_links.proofs.refused.note_connections.Goals as goal

pub loop-connection-preserved : goal.loop-connection-preserved
loop-connection-preserved c =
    noting-more c.args.connections.now c.loop-connection.connection-index c.connection-item.result c.loop-connection-test.true c.connection-item.is (connection_refusals c.args.pointed.now c.args.number) c.loop-connection.refusals
    c.note_connection.new.refusals _ c.note_connection.ensures c.loop-connection.invariant
