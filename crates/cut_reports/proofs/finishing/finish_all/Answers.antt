use Rattle.std.proofs.Common.{refl, ap, sym, append-nil, ◌∙◌, ◌++◌, arith}
use Rattle.std.proofs.lemmas.Result.{err_from_is_err_and}
use Rattle.cut_reports.specs.Feeding.{IsKept}
use Rattle.cut_reports.specs.Texts.{reports_text}
use Rattle.cut_reports.proofs.Places.{none_yet, one_more, some_of_them, rises_at}
use Rattle.cut_reports.proofs.Sequence.{stopped_there, next_has, next_part}
use Rattle.std.proofs.lemmas.List.{take_all}
use Rattle.cut_reports.proofs.Taken.{kept_same}
use Rattle.cut_reports.proofs.finishing.finish_all.Goals as goal

pub loop-place-init : goal.loop-place-init
loop-place-init g c = record {
  written = λ sets stand. sym (append-nil c.args.to.now.items);
  kept = none_yet (IsKept (λ b. (goal.Report-dyn g (b.vtable, b.value)).text b.value) (λ b. (goal.Report-dyn g (b.vtable, b.value)).label b.value) (λ b. (goal.Report-dyn g (b.vtable, b.value)).report_faults b.value)) c.args.reports.now.items;
  count = refl;
}

pub finish_at-requires-clause-there : goal.finish_at-requires-clause-there
finish_at-requires-clause-there g c = omega (arith, (rises_at 0 _ c.args.chosen.now c.loop-place.place-index 0 c.requires.chosen c.loop-place-test.true).1, c.loop-place.invariant.count)

pub finish_at-requires-clause-begun : goal.finish_at-requires-clause-begun
finish_at-requires-clause-begun g c = next_has (λ report. _) _ _ c.args.chosen.now c.loop-place.place-index 0 _ _ c.requires.chosen c.loop-place-test.true c.loop-place.invariant.kept c.requires.begun

pub returns-in_err-finish_at-clause-kept : goal.returns-in_err-finish_at-clause-kept
returns-in_err-finish_at-clause-kept g c =
    some_of_them _ _ c.args.chosen.now c.loop-place.place-index 0 _ _ _ (kept_same _ _ _) c.requires.chosen c.loop-place-test.true c.loop-place.invariant.kept c.in_err-finish_at.ensures.kept

pub returns-in_err-finish_at-clause-failed : goal.returns-in_err-finish_at-clause-failed
returns-in_err-finish_at-clause-failed g c =
    let p = err_from_is_err_and c.from_residual.result c.from_residual.ensures.1 in
    rw (p.1, p.2) (stopped_there _ _ _ c.args.chosen.now c.loop-place.place-index 0 c.in_err-finish_at.field-0.0 _ _ _ c.requires.chosen c.loop-place-test.true c.loop-place.invariant.kept c.in_err-finish_at.ensures.failed)

pub loop-place-preserved : goal.loop-place-preserved
loop-place-preserved g c = record {
  written = λ sets stand. next_part (λ b. (goal.Report-dyn g (b.vtable, b.value)).stands_for b.value) (λ b. (goal.Report-dyn g (b.vtable, b.value)).label b.value) (λ b. (goal.Report-dyn g (b.vtable, b.value)).text b.value) _ _ c.args.chosen.now sets c.args.names.now c.loop-place.place-index 0 _ _ _ _ _ c.requires.chosen c.loop-place-test.true c.loop-place.invariant.kept stand (c.loop-place.invariant.written sets stand) (c.in_ok-finish_at.ensures.text sets);
  kept = one_more _ _ c.args.chosen.now c.loop-place.place-index 0 _ _ _ c.requires.chosen c.loop-place-test.true c.loop-place.invariant.kept c.in_ok-finish_at.ensures.kept;
  count = omega (arith, c.loop-place.invariant.count, c.in_ok-finish_at.ensures.count);
}

pub returns-clause-text : goal.returns-clause-text
returns-clause-text g c sets stand =
    c.loop-place.invariant.written sets stand
    ∙ ap (λ chosen. c.args.to.now.items ++ reports_text (λ b. (goal.Report-dyn g (b.vtable, b.value)).label b.value) (λ b. (goal.Report-dyn g (b.vtable, b.value)).text b.value) chosen sets c.args.names.now c.args.reports.now.items)
    (take_all c.loop-place.place-index c.args.chosen.now (omega arith))
