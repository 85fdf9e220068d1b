use Rattle.std.proofs.Common.{◌+◌, ◌-◌, vec_len}
use Rattle.cut_reports.specs.inner.Diagram.{AreBelow}
use Rattle.cut_reports.proofs.diagram.sets_at.Given as goal

abbrev pub invariant-loop-counts : goal.invariant-loop-counts
invariant-loop-counts l = AreBelow l.store l.counts.items

abbrev pub decreases-loop-counts : goal.decreases-loop-counts
decreases-loop-counts l = l.id.position + 1 - vec_len l.counts
