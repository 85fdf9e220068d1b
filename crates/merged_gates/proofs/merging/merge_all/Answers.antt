use Rattle.merged_gates.proofs.Folds.{top-then}
use Rattle.merged_gates.proofs.merging.merge_all.Goals as goal

pub loop-turn-preserved : goal.loop-turn-preserved
loop-turn-preserved c = top-then c.args.gates.now c.loop-turn.gates c.turn.new.gates c.args.top c.loop-turn.next c.in_ok-joined.joined.top c.loop-turn.invariant c.in_ok-joined.ensures
