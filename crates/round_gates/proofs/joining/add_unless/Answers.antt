use Rattle.std.proofs.Common.{rules}
use Rattle.round_gates.proofs.Kept.{kept-insert}
use Rattle.round_gates.proofs.joining.add_unless.Goals as goal

pub returns-in_ok-insert : goal.returns-in_ok-insert
returns-in_ok-insert c = kept-insert c.args.seen.now.keys _ c.args.node c.args.dropped (search rules) c.in_ok-insert.ensures.keys
