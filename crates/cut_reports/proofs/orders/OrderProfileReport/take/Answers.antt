use Rattle.cut_reports.proofs.Counts.{takes_size}
use Rattle.cut_reports.proofs.orders.OrderProfileReport.take.Goals as goal

pub count_up-requires : goal.count_up-requires
count_up-requires c = takes_size _ _ c.args.set.now c.requires c.if-is_empty.ensures
