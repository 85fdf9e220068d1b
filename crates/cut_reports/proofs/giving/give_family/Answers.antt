use Rattle.std.proofs.Common.{[], refl, arith}
use Rattle.cut_reports.specs.Feeding.{IsKept}
use Rattle.cut_reports.proofs.Places.{none_yet, one_more, rises_at, some_of_them}
use Rattle.cut_reports.proofs.Taken.{kept_same}
use Rattle.cut_reports.proofs.Sequence.{next_has}
use Rattle.cut_reports.proofs.Families.{given_more, none_given, none_noted, noted_more}
use Rattle.cut_reports.proofs.giving.give_family.Goals as goal

pub loop-place-init : goal.loop-place-init
loop-place-init g c = record {
  given = none_given (λ b. (goal.Report-dyn g (b.vtable, b.value)).stands_for b.value) (λ b. (goal.Report-dyn g (b.vtable, b.value)).width b.value) c.args.counts.now [] c.args.reports.now.items;
  noted = none_noted _ _ _ c.new-declined.ensures.items;
  kept = none_yet (IsKept (λ b. (goal.Report-dyn g (b.vtable, b.value)).text b.value) (λ b. (goal.Report-dyn g (b.vtable, b.value)).label b.value) (λ b. (goal.Report-dyn g (b.vtable, b.value)).report_faults b.value)) c.args.reports.now.items;
  count = refl;
}

pub give_or_note-requires-clause-there : goal.give_or_note-requires-clause-there
give_or_note-requires-clause-there g c =
    omega (arith, (rises_at 0 _ c.args.chosen.now c.loop-place.place-index 0 c.requires.chosen c.loop-place-test.true).1, c.loop-place.invariant.count)

pub give_or_note-requires-clause-fits : goal.give_or_note-requires-clause-fits
give_or_note-requires-clause-fits g c = next_has _ _ _ c.args.chosen.now c.loop-place.place-index 0 _ _ c.requires.chosen c.loop-place-test.true c.loop-place.invariant.kept c.requires.fits

pub loop-place-preserved : goal.loop-place-preserved
loop-place-preserved g c = record {
  given = given_more _ _ _ _ c.args.chosen.now c.loop-place.place-index 0 _ _ _ _ _ c.requires.chosen c.loop-place-test.true c.loop-place.invariant.noted c.loop-place.invariant.given c.in_ok-give_or_note.ensures.given;
  noted = noted_more _ c.args.chosen.now _ _ c.in_ok-give_or_note.ensures.given.did c.loop-place.place-index 0 c.requires.chosen c.loop-place-test.true
      (rises_at 0 _ c.args.chosen.now c.loop-place.place-index 0 c.requires.chosen c.loop-place-test.true).1 c.in_ok-give_or_note.ensures.given.noted c.loop-place.invariant.noted;
  kept = one_more _ _ c.args.chosen.now c.loop-place.place-index 0 _ _ _ c.requires.chosen c.loop-place-test.true c.loop-place.invariant.kept c.in_ok-give_or_note.ensures.kept;
  count = omega (arith, c.loop-place.invariant.count, c.in_ok-give_or_note.ensures.count);
}

pub returns-in_err-give_or_note-clause-kept : goal.returns-in_err-give_or_note-clause-kept
returns-in_err-give_or_note-clause-kept g c =
    some_of_them _ _ c.args.chosen.now c.loop-place.place-index 0 _ _ _ (kept_same _ _ _) c.requires.chosen c.loop-place-test.true c.loop-place.invariant.kept c.in_err-give_or_note.ensures.kept
