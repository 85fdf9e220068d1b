use Rattle.std.proofs.Common.{◌≡◌, map, take}
use Rattle.system_answers.proofs.reports.labels_of.Given as goal

abbrev pub invariant-loop-report : goal.invariant-loop-report
invariant-loop-report g l = l.names ≡ map (λ b. (goal.Report-dyn g (b.vtable, b.value)).label b.value) (take l.report-index l.reports)
