use Rattle.std.proofs.Common.{◌≡◌, take, vec_len}
use Rattle.cut_reports.specs.Feeding.{IsKept}
use Rattle.cut_reports.specs.Places.{AtChosen}
use Rattle.cut_reports.specs.inner.Texts.{Begun}
use Rattle.cut_reports.proofs.beginning.begin_all.Given as goal

abbrev pub invariant-loop-place : goal.invariant-loop-place
invariant-loop-place g l = record {
  begun : AtChosen (take l.place-index l.chosen) (Begun (λ b. (goal.Report-dyn g (b.vtable, b.value)).stands_for b.value) (λ b. (goal.Report-dyn g (b.vtable, b.value)).width b.value) l.events) l.fn.reports.items l.reports.items;
  kept : AtChosen (take l.place-index l.chosen) (IsKept (λ b. (goal.Report-dyn g (b.vtable, b.value)).text b.value) (λ b. (goal.Report-dyn g (b.vtable, b.value)).label b.value) (λ b. (goal.Report-dyn g (b.vtable, b.value)).report_faults b.value)) l.fn.reports.items l.reports.items;
  count : vec_len l.reports ≡ vec_len l.fn.reports;
}
