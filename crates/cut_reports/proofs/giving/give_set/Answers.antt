use Rattle.std.proofs.Common.{[], ◌∷◌, refl, arith}
use Rattle.cut_reports.specs.Feeding.{IsKept}
use Rattle.cut_reports.specs.inner.Feeding.{TookSets}
use Rattle.std.proofs.lemmas.Result.{err_from_is_err_and}
use Rattle.cut_reports.proofs.Places.{none_yet, one_more, rises_at, some_of_them}
use Rattle.cut_reports.proofs.Taken.{failed_there, kept_same, next_takes}
use Rattle.cut_reports.proofs.giving.give_set.Goals as goal

pub loop-place-init : goal.loop-place-init
loop-place-init g c = record {
  took = none_yet (TookSets (λ b. (goal.Report-dyn g (b.vtable, b.value)).stands_for b.value) (λ b. (goal.Report-dyn g (b.vtable, b.value)).width b.value) (c.args.set.now ∷ [])) c.args.reports.now.items;
  kept = none_yet (IsKept (λ b. (goal.Report-dyn g (b.vtable, b.value)).text b.value) (λ b. (goal.Report-dyn g (b.vtable, b.value)).label b.value) (λ b. (goal.Report-dyn g (b.vtable, b.value)).report_faults b.value)) c.args.reports.now.items;
  count = refl;
}

pub give_at-requires-clause-there : goal.give_at-requires-clause-there
give_at-requires-clause-there g c =
    omega (arith, (rises_at 0 _ c.args.chosen.now c.loop-place.place-index 0 c.requires.chosen c.loop-place-test.true).1, c.loop-place.invariant.count)

pub give_at-requires-clause-takes : goal.give_at-requires-clause-takes
give_at-requires-clause-takes g c =
    next_takes _ _ _ c.args.chosen.now c.args.set.now c.loop-place.place-index 0 _ _ c.requires.chosen c.loop-place-test.true c.loop-place.invariant.took c.requires.takes

pub returns-in_err-give_at-clause-kept : goal.returns-in_err-give_at-clause-kept
returns-in_err-give_at-clause-kept g c =
    some_of_them _ _ c.args.chosen.now c.loop-place.place-index 0 _ _ _ (kept_same _ _ _) c.requires.chosen c.loop-place-test.true c.loop-place.invariant.kept c.in_err-give_at.ensures.kept

pub returns-in_err-give_at-clause-failed : goal.returns-in_err-give_at-clause-failed
returns-in_err-give_at-clause-failed g c =
    let p = err_from_is_err_and c.from_residual.result c.from_residual.ensures.1 in
    rw (p.1, p.2) (failed_there _ _ _ c.args.chosen.now c.loop-place.place-index 0 _ _ _ _ c.requires.chosen c.loop-place-test.true c.loop-place.invariant.kept c.in_err-give_at.ensures.failed.0 c.in_err-give_at.ensures.failed.1)

pub loop-place-preserved : goal.loop-place-preserved
loop-place-preserved g c = record {
  took = one_more _ _ c.args.chosen.now c.loop-place.place-index 0 _ _ _ c.requires.chosen c.loop-place-test.true c.loop-place.invariant.took c.in_ok-give_at.ensures.took;
  kept = one_more _ _ c.args.chosen.now c.loop-place.place-index 0 _ _ _ c.requires.chosen c.loop-place-test.true c.loop-place.invariant.kept c.in_ok-give_at.ensures.kept;
  count = omega (arith, c.loop-place.invariant.count, c.in_ok-give_at.ensures.count);
}
