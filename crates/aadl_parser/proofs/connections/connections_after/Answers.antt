use Rattle.aadl_parser.specs.Connections.{connections_after}
use Rattle.aadl_parser.proofs.Joined.{joined}
use Rattle.aadl_parser.proofs.connections.connections_after.Goals as goal

pub returns : goal.returns
unfolding connections_after
returns c = joined c.in_ok-word.ensures c.connections_or_none.ensures
