use Rattle.std.proofs.Common.{◌≡◌, ◌+◌, false, [], cond, length, vec_len}
use Rattle.cutset_lister.specs.inner.Walks.{IsSameListing, sets_left}
use Rattle.cut_reports.specs.Places.{AtChosen}
use Rattle.cut_reports.specs.Feeding.{IsKept}
use Rattle.cut_reports.specs.inner.Feeding.{Fed}
use Rattle.cut_reports.proofs.feeding.feed.Given as goal

abbrev pub invariant-loop-goes_on : goal.invariant-loop-goes_on
invariant-loop-goes_on g l = record {
  fed : Fed (λ b. (goal.Report-dyn g (b.vtable, b.value)).stands_for b.value) (λ b. (goal.Report-dyn g (b.vtable, b.value)).width b.value) l.chosen (sets_left l.store l.fn.listing) (sets_left l.store l.listing) l.fn.reports.items l.reports.items;
  kept : AtChosen l.chosen (IsKept (λ b. (goal.Report-dyn g (b.vtable, b.value)).text b.value) (λ b. (goal.Report-dyn g (b.vtable, b.value)).label b.value) (λ b. (goal.Report-dyn g (b.vtable, b.value)).report_faults b.value)) l.fn.reports.items l.reports.items;
  count : vec_len l.reports ≡ vec_len l.fn.reports;
  same : IsSameListing l.store l.fn.listing l.listing;
  end : l.goes_on ≡ false → sets_left l.store l.listing ≡ [];
}

abbrev pub decreases-loop-goes_on : goal.decreases-loop-goes_on
decreases-loop-goes_on g l = cond l.goes_on 1 0 + length (sets_left l.store l.listing)
