use Rattle.cut_reports.proofs.UseLaws.{takes_rising}
use Rattle.cut_reports.proofs.uses.EventUseReport.take.Goals as goal

pub count_each-requires : goal.count_each-requires
count_each-requires c = takes_rising _ _ c.args.set.now c.requires
