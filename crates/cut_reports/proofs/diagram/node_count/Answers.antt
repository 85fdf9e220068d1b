use Rattle.std.proofs.Common.{◌∙◌, sym}
use Rattle.cut_reports.proofs.Spreading.{below_node}
use Rattle.cut_reports.proofs.diagram.node_count.Goals as goal

pub returns : goal.returns
returns c store below =
    below_node store c.args.counts.now c.args.node c.in-Some.lo c.in-Some-count_at.hi c.saturating_add.result below (sym c.count_at.ensures ∙ c.in-Some.is) (sym c.count_at-2.ensures ∙ c.in-Some-count_at.is) c.saturating_add.ensures
