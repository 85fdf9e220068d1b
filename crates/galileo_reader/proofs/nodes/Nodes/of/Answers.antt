use Rattle.galileo_reader.proofs.NodeLaws.{events-room, gates-room}
use Rattle.galileo_reader.proofs.nodes.Nodes.of.Goals as goal

pub add-requires-clause-gates : goal.add-requires-clause-gates
add-requires-clause-gates c = gates-room c.args.lines.now c.loop-line.line-index c.loop-line.naming c.loop-line-test.true c.requires.few c.loop-line.invariant.knows

pub add-requires-clause-events : goal.add-requires-clause-events
add-requires-clause-events c = events-room c.args.lines.now c.loop-line.line-index c.loop-line.naming c.loop-line-test.true c.requires.few c.loop-line.invariant.knows
