use Rattle.std.proofs.Common.{refl, arith}
use Rattle.std.proofs.lemmas.Result.{err_from_is_err_and}
use Rattle.cut_reports.specs.Feeding.{IsKept}
use Rattle.cut_reports.specs.inner.Texts.{Begun}
use Rattle.cut_reports.proofs.Places.{none_yet, one_more, some_of_them, rises_at}
use Rattle.cut_reports.proofs.Sequence.{stopped_there}
use Rattle.cut_reports.proofs.Taken.{kept_same}
use Rattle.cut_reports.proofs.beginning.begin_all.Goals as goal

pub loop-place-init : goal.loop-place-init
loop-place-init g c = record {
  begun = none_yet (Begun (λ b. (goal.Report-dyn g (b.vtable, b.value)).stands_for b.value) (λ b. (goal.Report-dyn g (b.vtable, b.value)).width b.value) c.args.events) c.args.reports.now.items;
  kept = none_yet (IsKept (λ b. (goal.Report-dyn g (b.vtable, b.value)).text b.value) (λ b. (goal.Report-dyn g (b.vtable, b.value)).label b.value) (λ b. (goal.Report-dyn g (b.vtable, b.value)).report_faults b.value)) c.args.reports.now.items;
  count = refl;
}

pub begin_at-requires : goal.begin_at-requires
begin_at-requires g c = omega (arith, (rises_at 0 _ c.args.chosen.now c.loop-place.place-index 0 c.requires c.loop-place-test.true).1, c.loop-place.invariant.count)

pub returns-in_err-begin_at-clause-kept : goal.returns-in_err-begin_at-clause-kept
returns-in_err-begin_at-clause-kept g c =
    some_of_them _ _ c.args.chosen.now c.loop-place.place-index 0 _ _ _ (kept_same _ _ _) c.requires c.loop-place-test.true c.loop-place.invariant.kept c.in_err-begin_at.ensures.kept

pub returns-in_err-begin_at-clause-failed : goal.returns-in_err-begin_at-clause-failed
returns-in_err-begin_at-clause-failed g c =
    let p = err_from_is_err_and c.from_residual.result c.from_residual.ensures.1 in
    rw (p.1, p.2) (stopped_there _ _ _ c.args.chosen.now c.loop-place.place-index 0 c.in_err-begin_at.field-0.0 _ _ _ c.requires c.loop-place-test.true c.loop-place.invariant.kept c.in_err-begin_at.ensures.failed)

pub loop-place-preserved : goal.loop-place-preserved
loop-place-preserved g c = record {
  begun = one_more _ _ c.args.chosen.now c.loop-place.place-index 0 _ _ _ c.requires c.loop-place-test.true c.loop-place.invariant.begun c.in_ok-begin_at.ensures.begun;
  kept = one_more _ _ c.args.chosen.now c.loop-place.place-index 0 _ _ _ c.requires c.loop-place-test.true c.loop-place.invariant.kept c.in_ok-begin_at.ensures.kept;
  count = omega (arith, c.loop-place.invariant.count, c.in_ok-begin_at.ensures.count);
}
