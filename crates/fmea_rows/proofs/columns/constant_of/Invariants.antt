use Rattle.std.proofs.Common.{◌≡◌, length}
use Rattle.fault_system.specs.Truth.{member}
use Rattle.fmea_rows.specs.inner.Columns.{AreConstant}
use Rattle.fmea_rows.proofs.columns.constant_of.Given as goal

abbrev pub invariant-loop-number : goal.invariant-loop-number
invariant-loop-number l = record {
  size : length l.constant ≡ length l.system.facts;
  constant : AreConstant l.system (member l.constant);
}
