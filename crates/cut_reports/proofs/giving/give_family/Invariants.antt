use Rattle.std.proofs.Common.{◌≡◌, take, vec_len}
use Rattle.cut_reports.specs.Places.{AtChosen}
use Rattle.cut_reports.specs.Feeding.{IsKept}
use Rattle.cut_reports.specs.inner.Feeding.{GivenFamily}
use Rattle.cut_reports.proofs.Families.{IsNoted}
use Rattle.cut_reports.proofs.giving.give_family.Given as goal

abbrev pub invariant-loop-place : goal.invariant-loop-place
invariant-loop-place g l = record {
  given : GivenFamily (λ b. (goal.Report-dyn g (b.vtable, b.value)).stands_for b.value) (λ b. (goal.Report-dyn g (b.vtable, b.value)).width b.value) (take l.place-index l.chosen) l.counts l.declined.items l.fn.reports.items l.reports.items;
  noted : IsNoted (vec_len l.fn.reports) (take l.place-index l.chosen) l.declined.items;
  kept : AtChosen (take l.place-index l.chosen) (IsKept (λ b. (goal.Report-dyn g (b.vtable, b.value)).text b.value) (λ b. (goal.Report-dyn g (b.vtable, b.value)).label b.value) (λ b. (goal.Report-dyn g (b.vtable, b.value)).report_faults b.value)) l.fn.reports.items l.reports.items;
  count : vec_len l.reports ≡ vec_len l.fn.reports;
}
