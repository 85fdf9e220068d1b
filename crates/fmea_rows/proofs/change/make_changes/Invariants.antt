use Rattle.std.proofs.Common.{◌≡◌, take}
use Rattle.fmea_rows.specs.inner.Tables.{changed}
use Rattle.fmea_rows.proofs.change.make_changes.Given as goal

abbrev pub invariant-loop-change : goal.invariant-loop-change
invariant-loop-change l = l.times ≡ changed l.fn.times (take l.change-index l.changes)
