use Rattle.fmea_rows.specs.inner.Columns.{AreColumns}
use Rattle.std.proofs.Common.{take}
use Rattle.fmea_rows.proofs.told.columns_of.Given as goal

abbrev pub invariant-loop-effect : goal.invariant-loop-effect
invariant-loop-effect l = AreColumns l.asked.system.now (take l.effect-index l.asked.effects.now) l.columns.items
