use Rattle.std.proofs.Common.{◌≡◌, vec_len}
use Rattle.cut_reports.proofs.Adding.{MarkedTo}
use Rattle.cut_reports.proofs.singles.mark_all.Given as goal

abbrev pub invariant-loop-event : goal.invariant-loop-event
invariant-loop-event l = record {
  marked : MarkedTo l.event l.more l.fn.marks.items l.marks.items;
  count : vec_len l.marks ≡ vec_len l.fn.marks;
}
