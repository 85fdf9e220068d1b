use Rattle.std.proofs.Common.{◌≡◌, take, vec_len}
use Rattle.cut_reports.specs.inner.Counts.{CountedEach}
use Rattle.cut_reports.proofs.uses.count_each.Given as goal

abbrev pub invariant-loop-event : goal.invariant-loop-event
invariant-loop-event l = record {
  counted : CountedEach (take l.event-index l.set) l.fn.counts.items l.counts.items;
  count : vec_len l.counts ≡ vec_len l.fn.counts;
}
