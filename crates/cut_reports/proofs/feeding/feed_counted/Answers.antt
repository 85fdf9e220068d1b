use Rattle.std.proofs.Common.{List, ℕ, subst, sym, true, vec_len}
use Rattle.std.specs.Prelude.{◌≡◌}
use Rattle.plain_values.specs.Rising.{RisesWithin}
use Rattle.cutset_lister.specs.inner.Walks.{sets_left}
use Rattle.cut_reports.specs.Feeding.{IsKept, RoseAt}
use Rattle.cut_reports.specs.Places.{AtChosen, is_among}
use Rattle.cut_reports.specs.inner.Feeding.{ChosenTake, TookSets}
use Rattle.cut_reports.specs.inner.Texts.{FaultAt}
use Rattle.cut_reports.proofs.Taken.{kept_more, kept_same}
use Rattle.cut_reports.proofs.Sequence.{stopped_in_all}
use Rattle.cut_reports.proofs.Families.{all_within, declined_take, faults_within, took_all}
use Rattle.cut_reports.proofs.feeding.feed_counted.Goals as goal

pub feed_sets-requires-clause-chosen : goal.feed_sets-requires-clause-chosen
feed_sets-requires-clause-chosen g c =
    subst (λ (l : List ℕ). RisesWithin 0 (vec_len c.give_family.new.reports) l) (sym c.as_slice.ensures.value)
    (subst (λ n. RisesWithin 0 n c.in-Ok.declined.items) (sym c.in-Ok.ensures.count) c.in-Ok.ensures.rising)

pub feed_sets-requires-clause-takes : goal.feed_sets-requires-clause-takes
feed_sets-requires-clause-takes g c =
    subst (λ (l : List ℕ). ChosenTake (λ b. (goal.Report-dyn g (b.vtable, b.value)).width b.value) l (sets_left c.args.store.now c.args.listing.now) c.give_family.new.reports.items) (sym c.as_slice.ensures.value)
    (declined_take _ _ _ _ _ _ _ _ c.in-Ok.ensures.among c.requires.counted c.in-Ok.ensures.given c.requires.takes)

pub returns-in-Ok-feed_sets-clause-took : goal.returns-in-Ok-feed_sets-clause-took
returns-in-Ok-feed_sets-clause-took g c =
    took_all _ _ _ _ _ _ _ _ _ c.in-Ok.ensures.among c.requires.counted c.in-Ok.ensures.given
    (subst (λ (l : List ℕ). AtChosen l (TookSets (λ b. (goal.Report-dyn g (b.vtable, b.value)).stands_for b.value) (λ b. (goal.Report-dyn g (b.vtable, b.value)).width b.value) (sets_left c.args.store.now c.args.listing.now)) c.give_family.new.reports.items c.feed_sets.new.reports.items) c.as_slice.ensures.value c.in-Ok-feed_sets.ensures.took)

pub returns-in-Ok-feed_sets-clause-kept : goal.returns-in-Ok-feed_sets-clause-kept
returns-in-Ok-feed_sets-clause-kept g c =
    kept_more _ _ _ _ _ _ _ c.in-Ok.ensures.kept
    (all_within _ c.in-Ok.declined.items _ _ _ (kept_same _ _ _) c.in-Ok.ensures.among
    (subst (λ (l : List ℕ). AtChosen l (IsKept (λ b. (goal.Report-dyn g (b.vtable, b.value)).text b.value) (λ b. (goal.Report-dyn g (b.vtable, b.value)).label b.value) (λ b. (goal.Report-dyn g (b.vtable, b.value)).report_faults b.value)) c.give_family.new.reports.items c.feed_sets.new.reports.items) c.as_slice.ensures.value c.in-Ok-feed_sets.ensures.kept))

pub returns-clause-kept : goal.returns-clause-kept
returns-clause-kept g c =
    kept_more _ _ _ _ _ _ _ c.in-Ok.ensures.kept
    (all_within _ c.in-Ok.declined.items _ _ _ (kept_same _ _ _) c.in-Ok.ensures.among
    (subst (λ (l : List ℕ). AtChosen l (IsKept (λ b. (goal.Report-dyn g (b.vtable, b.value)).text b.value) (λ b. (goal.Report-dyn g (b.vtable, b.value)).label b.value) (λ b. (goal.Report-dyn g (b.vtable, b.value)).report_faults b.value)) c.give_family.new.reports.items c.feed_sets.new.reports.items) c.as_slice.ensures.value c.in-Err-feed_sets.ensures.kept))

pub returns-clause-failed : goal.returns-clause-failed
returns-clause-failed g c =
    stopped_in_all _ _ _ _ c.in-Err-feed_sets.stop _ _ _ c.in-Ok.ensures.kept
    (faults_within _ c.in-Ok.declined.items _ c.in-Err-feed_sets.stop _ _ c.in-Ok.ensures.among
    (subst (λ (l : List ℕ). FaultAt (λ at. (is_among l at ≡ true) × RoseAt (λ b. (goal.Report-dyn g (b.vtable, b.value)).report_faults b.value) at c.give_family.new.reports.items c.feed_sets.new.reports.items) c.in-Err-feed_sets.stop) c.as_slice.ensures.value c.in-Err-feed_sets.ensures.failed))
