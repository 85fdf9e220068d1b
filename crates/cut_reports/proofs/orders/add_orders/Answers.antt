use Rattle.std.proofs.Common.{length, le_refl, arith}
use Rattle.std.proofs.lemmas.List.Edits.{length-between}
use Rattle.cut_reports.proofs.orders.add_orders.Goals as goal

pub add_all-requires : goal.add_all-requires
add_all-requires c = omega (arith, c.requires, length-between c.args.orders.now 1 (length c.args.orders.now) (le_refl (length c.args.orders.now)))
