use Rattle.std.proofs.Common.{◌≡◌, vec_len}
use Rattle.cut_reports.proofs.Adding.{AddedTo}
use Rattle.cut_reports.proofs.counting.add_all.Given as goal

abbrev pub invariant-loop-place : goal.invariant-loop-place
invariant-loop-place l = record {
  added : AddedTo l.place l.more l.fn.counts.items l.counts.items;
  count : vec_len l.counts ≡ vec_len l.fn.counts;
}
