use Rattle.std.proofs.Common.{◌∙◌, ◌++◌, ap}
use Rattle.cutset_lister.specs.inner.Walks.{sets_left}
use Rattle.cut_reports.proofs.Taken.{kept_more}
use Rattle.cut_reports.proofs.Families.{some_fit, some_for}
use Rattle.cut_reports.proofs.Sequence.{begun_take, fed_stand, fed_have, parts_same, stopped_in_all}
use Rattle.cut_reports.proofs.whole.report_text.Goals as goal

pub feed_family-requires-clause-takes : goal.feed_family-requires-clause-takes
feed_family-requires-clause-takes g c = begun_take _ _ _ _ _ _ _ c.in_default.ensures.begun c.requires.sets

pub feed_family-requires-clause-fits : goal.feed_family-requires-clause-fits
feed_family-requires-clause-fits g c = some_fit _ _ _ _ _ _ _ c.in_default.ensures.begun c.requires.fits

pub feed_family-requires-clause-counted : goal.feed_family-requires-clause-counted
feed_family-requires-clause-counted g c = some_for _ _ _ c.requires.fits c.requires.sets c.requires.counted

pub finish_all-requires-clause-begun : goal.finish_all-requires-clause-begun
finish_all-requires-clause-begun g c = fed_have _ _ _ _ _ _ _ _ c.in_default.ensures.begun c.in_default-feed_family.ensures.took

pub returns-in-Err-feed_family-clause-kept : goal.returns-in-Err-feed_family-clause-kept
returns-in-Err-feed_family-clause-kept g c = kept_more _ _ _ _ _ _ _ c.in_default.ensures.kept c.in-Err-feed_family.ensures.kept

pub returns-in-Err-feed_family-clause-failed : goal.returns-in-Err-feed_family-clause-failed
returns-in-Err-feed_family-clause-failed g c = stopped_in_all _ _ _ _ c.in-Err-feed_family.stop _ _ _ c.in_default.ensures.kept c.in-Err-feed_family.ensures.failed

pub returns-in-Ok-clause-text : goal.returns-in-Ok-clause-text
returns-in-Ok-clause-text g c =
    c.in-Ok.ensures.text (sets_left c.args.listed.now.store.now c.args.listing.now) (fed_stand _ _ _ _ _ _ _ _ c.in_default.ensures.begun c.in_default-feed_family.ensures.took)
    ∙ ap (λ t. c.args.to.now.items ++ t) (parts_same _ _ _ c.args.chosen.now _ _ _ _ _ (kept_more _ _ _ _ _ _ _ c.in_default.ensures.kept c.in_default-feed_family.ensures.kept))

pub returns-in-Ok-clause-kept : goal.returns-in-Ok-clause-kept
returns-in-Ok-clause-kept g c = kept_more _ _ _ _ _ _ _ c.in_default.ensures.kept (kept_more _ _ _ _ _ _ _ c.in_default-feed_family.ensures.kept c.in-Ok.ensures.kept)

pub returns-in-Err-finish_all-clause-kept : goal.returns-in-Err-finish_all-clause-kept
returns-in-Err-finish_all-clause-kept g c = kept_more _ _ _ _ _ _ _ c.in_default.ensures.kept (kept_more _ _ _ _ _ _ _ c.in_default-feed_family.ensures.kept c.in-Err-finish_all.ensures.kept)

pub returns-in-Err-finish_all-clause-failed : goal.returns-in-Err-finish_all-clause-failed
returns-in-Err-finish_all-clause-failed g c = stopped_in_all _ _ _ _ c.in-Err-finish_all.end _ _ _ (kept_more _ _ _ _ _ _ _ c.in_default.ensures.kept c.in_default-feed_family.ensures.kept) c.in-Err-finish_all.ensures.failed
