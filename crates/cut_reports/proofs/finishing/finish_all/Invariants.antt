use Rattle.std.proofs.Common.{◌≡◌, ℕ, List, ◌++◌, take, vec_len}
use Rattle.cut_reports.specs.Feeding.{IsKept}
use Rattle.cut_reports.specs.Places.{AtChosen}
use Rattle.cut_reports.specs.Texts.{reports_text}
use Rattle.cut_reports.specs.inner.Texts.{ChosenStand}
use Rattle.cut_reports.proofs.finishing.finish_all.Given as goal

abbrev pub invariant-loop-place : goal.invariant-loop-place
invariant-loop-place g l = record {
  written : (sets : List (List ℕ)) → ChosenStand (λ b. (goal.Report-dyn g (b.vtable, b.value)).stands_for b.value) l.chosen sets l.fn.reports.items
      → l.to.items ≡ l.fn.to.items ++ reports_text (λ b. (goal.Report-dyn g (b.vtable, b.value)).label b.value) (λ b. (goal.Report-dyn g (b.vtable, b.value)).text b.value) (take l.place-index l.chosen) sets l.names l.fn.reports.items;
  kept : AtChosen (take l.place-index l.chosen) (IsKept (λ b. (goal.Report-dyn g (b.vtable, b.value)).text b.value) (λ b. (goal.Report-dyn g (b.vtable, b.value)).label b.value) (λ b. (goal.Report-dyn g (b.vtable, b.value)).report_faults b.value)) l.fn.reports.items l.reports.items;
  count : vec_len l.reports ≡ vec_len l.fn.reports;
}
