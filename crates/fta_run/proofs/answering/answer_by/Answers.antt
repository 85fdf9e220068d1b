use Rattle.std.proofs.Common.{List, ℕ, codes, inl, inr, refl, subst}
use Rattle.phases.specs.inner.Meets.{IsMemory, MeetsBut}
use Rattle.system_answers.specs.Voices.{voices_of}
use Rattle.system_answers.proofs.Reported.{all_kept}
use Rattle.fta_run.specs.Due.{cuts_in, events_in, first_text, fmea_in, galileo_in, make_text, manifest_in, place_in, probability_in, refusals_in, review_in, sets_of_tree, targets_in, tree_in}
use Rattle.fta_run.specs.Forms.{is_drawn}
use Rattle.fta_words.specs.Words.{is_set}
use Rattle.fta_run.specs.inner.Ready.{held_text, ready_text}
use Rattle.fta_run.proofs.Ran.{held_is, meets_wider, ready_held, ready_set, ready_told, told_as}
use Rattle.fta_run.proofs.answering.answer_by.Goals as goal

pub returns-in-Check-clause-text : goal.returns-in-Check-clause-text
returns-in-Check-clause-text g c = rw c.in-Check.is (ready_held _ _ c.check.result c.ready_of.result c.ready_of.ensures (λ s memory. inl memory) c.check.ensures)

pub returns-in-Check-clause-by_lines : goal.returns-in-Check-clause-by_lines
returns-in-Check-clause-by_lines g c = held_is _ c.check.result c.ready_of.result c.ready_of.ensures

pub returns-in-Check-clause-reports : goal.returns-in-Check-clause-reports
returns-in-Check-clause-reports g c = all_kept (λ b. (goal.Report-dyn g (b.vtable, b.value)).text b.value) (λ b. (goal.Report-dyn g (b.vtable, b.value)).label b.value) (λ b. (goal.Report-dyn g (b.vtable, b.value)).report_faults b.value) _ c.args.reports.now.items

pub returns-in-Cuts-clause-text : goal.returns-in-Cuts-clause-text
returns-in-Cuts-clause-text g c =
    let asked = c.args.asked.now in
    rw c.in-Cuts.is (ready_set _ (λ flag. cuts_in c.args.profile asked.root asked.target asked.options.paging flag c.args.texts) c.is_set.result _ c.cuts.result c.ready_of-in-Cuts.result c.is_set.ensures c.ready_of-in-Cuts.ensures (λ s memory. inl memory) c.cuts.ensures)

pub returns-in-Cuts-clause-by_lines : goal.returns-in-Cuts-clause-by_lines
returns-in-Cuts-clause-by_lines g c = held_is _ c.cuts.result c.ready_of-in-Cuts.result c.ready_of-in-Cuts.ensures

pub returns-in-Cuts-clause-reports : goal.returns-in-Cuts-clause-reports
returns-in-Cuts-clause-reports g c = all_kept (λ b. (goal.Report-dyn g (b.vtable, b.value)).text b.value) (λ b. (goal.Report-dyn g (b.vtable, b.value)).label b.value) (λ b. (goal.Report-dyn g (b.vtable, b.value)).report_faults b.value) _ c.args.reports.now.items

pub returns-in-Make-clause-text : goal.returns-in-Make-clause-text
returns-in-Make-clause-text g c =
    let asked = c.args.asked.now in
    rw c.in-Make.is (ready_set _ (λ flag. make_text asked.number flag) c.is_set-in-Make.result _ c.make.result c.ready_of-in-Make.result c.is_set-in-Make.ensures c.ready_of-in-Make.ensures (λ s memory. inl memory) c.make.ensures)

pub returns-in-Make-clause-by_lines : goal.returns-in-Make-clause-by_lines
returns-in-Make-clause-by_lines g c = held_is _ c.make.result c.ready_of-in-Make.result c.ready_of-in-Make.ensures

pub returns-in-Make-clause-reports : goal.returns-in-Make-clause-reports
returns-in-Make-clause-reports g c = all_kept (λ b. (goal.Report-dyn g (b.vtable, b.value)).text b.value) (λ b. (goal.Report-dyn g (b.vtable, b.value)).label b.value) (λ b. (goal.Report-dyn g (b.vtable, b.value)).report_faults b.value) _ c.args.reports.now.items

pub returns-in-Galileo-clause-text : goal.returns-in-Galileo-clause-text
returns-in-Galileo-clause-text g c =
    let options = c.args.asked.now.options in
    let its = subst (λ (names : List (List ℕ)). MeetsBut IsMemory ready_text (galileo_in (is_drawn options.form) options names c.args.texts) c.galileo.result) c.items-names.ensures.items c.galileo.ensures.text in
    rw c.in-Galileo.is (meets_wider _ _ _ _ c.galileo.result (λ s memory. inl memory) its)

pub returns-in-Galileo-clause-reports : goal.returns-in-Galileo-clause-reports
returns-in-Galileo-clause-reports g c = all_kept (λ b. (goal.Report-dyn g (b.vtable, b.value)).text b.value) (λ b. (goal.Report-dyn g (b.vtable, b.value)).label b.value) (λ b. (goal.Report-dyn g (b.vtable, b.value)).report_faults b.value) _ c.args.reports.now.items

pub returns-in-Paths-clause-text : goal.returns-in-Paths-clause-text
returns-in-Paths-clause-text g c = rw c.in-Paths.is (ready_held _ _ c.paths.result c.ready_of-in-Paths.result c.ready_of-in-Paths.ensures (λ s memory. inl memory) c.paths.ensures)

pub returns-in-Paths-clause-by_lines : goal.returns-in-Paths-clause-by_lines
returns-in-Paths-clause-by_lines g c = held_is _ c.paths.result c.ready_of-in-Paths.result c.ready_of-in-Paths.ensures

pub returns-in-Paths-clause-reports : goal.returns-in-Paths-clause-reports
returns-in-Paths-clause-reports g c = all_kept (λ b. (goal.Report-dyn g (b.vtable, b.value)).text b.value) (λ b. (goal.Report-dyn g (b.vtable, b.value)).label b.value) (λ b. (goal.Report-dyn g (b.vtable, b.value)).report_faults b.value) _ c.args.reports.now.items

pub returns-in-Why-clause-text : goal.returns-in-Why-clause-text
returns-in-Why-clause-text g c = rw c.in-Why.is (ready_held _ _ c.why.result c.ready_of-in-Why.result c.ready_of-in-Why.ensures (λ s memory. inl memory) c.why.ensures)

pub returns-in-Why-clause-by_lines : goal.returns-in-Why-clause-by_lines
returns-in-Why-clause-by_lines g c = held_is _ c.why.result c.ready_of-in-Why.result c.ready_of-in-Why.ensures

pub returns-in-Why-clause-reports : goal.returns-in-Why-clause-reports
returns-in-Why-clause-reports g c = all_kept (λ b. (goal.Report-dyn g (b.vtable, b.value)).text b.value) (λ b. (goal.Report-dyn g (b.vtable, b.value)).label b.value) (λ b. (goal.Report-dyn g (b.vtable, b.value)).report_faults b.value) _ c.args.reports.now.items

pub returns-in-Confirm-clause-text : goal.returns-in-Confirm-clause-text
returns-in-Confirm-clause-text g c = rw c.in-Confirm.is (ready_held _ _ c.confirmation.result c.ready_of-in-Confirm.result c.ready_of-in-Confirm.ensures (λ s memory. inl memory) c.confirmation.ensures)

pub returns-in-Confirm-clause-by_lines : goal.returns-in-Confirm-clause-by_lines
returns-in-Confirm-clause-by_lines g c = held_is _ c.confirmation.result c.ready_of-in-Confirm.result c.ready_of-in-Confirm.ensures

pub returns-in-Confirm-clause-reports : goal.returns-in-Confirm-clause-reports
returns-in-Confirm-clause-reports g c = all_kept (λ b. (goal.Report-dyn g (b.vtable, b.value)).text b.value) (λ b. (goal.Report-dyn g (b.vtable, b.value)).label b.value) (λ b. (goal.Report-dyn g (b.vtable, b.value)).report_faults b.value) _ c.args.reports.now.items

pub returns-in-Targets-clause-text : goal.returns-in-Targets-clause-text
returns-in-Targets-clause-text g c =
    let asked = c.args.asked.now in
    rw c.in-Targets.is (ready_set _ (λ flag. targets_in c.args.profile asked.root flag c.args.texts) c.is_set-in-Targets.result _ c.targets.result c.ready_of-in-Targets.result c.is_set-in-Targets.ensures c.ready_of-in-Targets.ensures (λ s memory. inl memory) c.targets.ensures)

pub returns-in-Targets-clause-by_lines : goal.returns-in-Targets-clause-by_lines
returns-in-Targets-clause-by_lines g c = held_is _ c.targets.result c.ready_of-in-Targets.result c.ready_of-in-Targets.ensures

pub returns-in-Targets-clause-reports : goal.returns-in-Targets-clause-reports
returns-in-Targets-clause-reports g c = all_kept (λ b. (goal.Report-dyn g (b.vtable, b.value)).text b.value) (λ b. (goal.Report-dyn g (b.vtable, b.value)).label b.value) (λ b. (goal.Report-dyn g (b.vtable, b.value)).report_faults b.value) _ c.args.reports.now.items

pub returns-in-Events-clause-text : goal.returns-in-Events-clause-text
returns-in-Events-clause-text g c =
    let asked = c.args.asked.now in
    let its = subst (λ (names : List (List ℕ)). MeetsBut IsMemory held_text (events_in c.args.profile asked.root names c.args.texts) c.events.result) c.items-names.ensures.items c.events.ensures in
    rw c.in-Events.is (ready_held _ _ c.events.result c.ready_of-in-Events.result c.ready_of-in-Events.ensures (λ s memory. inl memory) its)

pub returns-in-Events-clause-by_lines : goal.returns-in-Events-clause-by_lines
returns-in-Events-clause-by_lines g c = held_is _ c.events.result c.ready_of-in-Events.result c.ready_of-in-Events.ensures

pub returns-in-Events-clause-reports : goal.returns-in-Events-clause-reports
returns-in-Events-clause-reports g c = all_kept (λ b. (goal.Report-dyn g (b.vtable, b.value)).text b.value) (λ b. (goal.Report-dyn g (b.vtable, b.value)).label b.value) (λ b. (goal.Report-dyn g (b.vtable, b.value)).report_faults b.value) _ c.args.reports.now.items

pub returns-in-Review-clause-text : goal.returns-in-Review-clause-text
returns-in-Review-clause-text g c =
    let asked = c.args.asked.now in
    let its = subst (λ (names : List (List ℕ)). MeetsBut IsMemory held_text (review_in c.args.profile asked.root names c.args.texts) c.review.result) c.items-names.ensures.items c.review.ensures in
    rw c.in-Review.is (ready_held _ _ c.review.result c.ready_of-in-Review.result c.ready_of-in-Review.ensures (λ s memory. inl memory) its)

pub returns-in-Review-clause-by_lines : goal.returns-in-Review-clause-by_lines
returns-in-Review-clause-by_lines g c = held_is _ c.review.result c.ready_of-in-Review.result c.ready_of-in-Review.ensures

pub returns-in-Review-clause-reports : goal.returns-in-Review-clause-reports
returns-in-Review-clause-reports g c = all_kept (λ b. (goal.Report-dyn g (b.vtable, b.value)).text b.value) (λ b. (goal.Report-dyn g (b.vtable, b.value)).label b.value) (λ b. (goal.Report-dyn g (b.vtable, b.value)).report_faults b.value) _ c.args.reports.now.items

pub returns-in-Manifest-clause-text : goal.returns-in-Manifest-clause-text
returns-in-Manifest-clause-text g c =
    let asked = c.args.asked.now in
    let its = subst (λ (names : List (List ℕ)). MeetsBut IsMemory held_text (manifest_in c.args.profile asked.root names c.args.texts) c.manifest.result) c.items-names.ensures.items c.manifest.ensures in
    rw c.in-Manifest.is (ready_held _ _ c.manifest.result c.ready_of-in-Manifest.result c.ready_of-in-Manifest.ensures (λ s memory. inl memory) its)

pub returns-in-Manifest-clause-by_lines : goal.returns-in-Manifest-clause-by_lines
returns-in-Manifest-clause-by_lines g c = held_is _ c.manifest.result c.ready_of-in-Manifest.result c.ready_of-in-Manifest.ensures

pub returns-in-Manifest-clause-reports : goal.returns-in-Manifest-clause-reports
returns-in-Manifest-clause-reports g c = all_kept (λ b. (goal.Report-dyn g (b.vtable, b.value)).text b.value) (λ b. (goal.Report-dyn g (b.vtable, b.value)).label b.value) (λ b. (goal.Report-dyn g (b.vtable, b.value)).report_faults b.value) _ c.args.reports.now.items

pub returns-in-Refusals-clause-text : goal.returns-in-Refusals-clause-text
returns-in-Refusals-clause-text g c =
    let asked = c.args.asked.now in
    let its = subst (λ (names : List (List ℕ)). MeetsBut IsMemory held_text (refusals_in c.args.profile asked.root names c.args.texts) c.refusals.result) c.items-names.ensures.items c.refusals.ensures in
    rw c.in-Refusals.is (ready_held _ _ c.refusals.result c.ready_of-in-Refusals.result c.ready_of-in-Refusals.ensures (λ s memory. inl memory) its)

pub returns-in-Refusals-clause-by_lines : goal.returns-in-Refusals-clause-by_lines
returns-in-Refusals-clause-by_lines g c = held_is _ c.refusals.result c.ready_of-in-Refusals.result c.ready_of-in-Refusals.ensures

pub returns-in-Refusals-clause-reports : goal.returns-in-Refusals-clause-reports
returns-in-Refusals-clause-reports g c = all_kept (λ b. (goal.Report-dyn g (b.vtable, b.value)).text b.value) (λ b. (goal.Report-dyn g (b.vtable, b.value)).label b.value) (λ b. (goal.Report-dyn g (b.vtable, b.value)).report_faults b.value) _ c.args.reports.now.items

pub returns-in-Probability-clause-text : goal.returns-in-Probability-clause-text
returns-in-Probability-clause-text g c =
    let asked = c.args.asked.now in
    rw c.in-Probability.is (ready_set _ (λ flag. probability_in c.args.profile asked.root asked.target asked.options.hours flag asked.options.paging.max_order c.args.texts) c.is_set-in-Probability.result _ c.probability.result c.ready_of-in-Probability.result c.is_set-in-Probability.ensures c.ready_of-in-Probability.ensures (λ s memory. inl memory) c.probability.ensures)

pub returns-in-Probability-clause-by_lines : goal.returns-in-Probability-clause-by_lines
returns-in-Probability-clause-by_lines g c = held_is _ c.probability.result c.ready_of-in-Probability.result c.ready_of-in-Probability.ensures

pub returns-in-Probability-clause-reports : goal.returns-in-Probability-clause-reports
returns-in-Probability-clause-reports g c = all_kept (λ b. (goal.Report-dyn g (b.vtable, b.value)).text b.value) (λ b. (goal.Report-dyn g (b.vtable, b.value)).label b.value) (λ b. (goal.Report-dyn g (b.vtable, b.value)).report_faults b.value) _ c.args.reports.now.items

pub returns-in-Place-clause-text : goal.returns-in-Place-clause-text
returns-in-Place-clause-text g c =
    let asked = c.args.asked.now in
    let its = subst (λ (names : List (List ℕ)). MeetsBut IsMemory held_text (place_in names asked.number c.args.texts) c.place.result) c.items-names.ensures.items c.place.ensures in
    rw c.in-Place.is (ready_held _ _ c.place.result c.ready_of-in-Place.result c.ready_of-in-Place.ensures (λ s memory. inl memory) its)

pub returns-in-Place-clause-by_lines : goal.returns-in-Place-clause-by_lines
returns-in-Place-clause-by_lines g c = held_is _ c.place.result c.ready_of-in-Place.result c.ready_of-in-Place.ensures

pub returns-in-Place-clause-reports : goal.returns-in-Place-clause-reports
returns-in-Place-clause-reports g c = all_kept (λ b. (goal.Report-dyn g (b.vtable, b.value)).text b.value) (λ b. (goal.Report-dyn g (b.vtable, b.value)).label b.value) (λ b. (goal.Report-dyn g (b.vtable, b.value)).report_faults b.value) _ c.args.reports.now.items

pub returns-in-Help-clause-text : goal.returns-in-Help-clause-text
returns-in-Help-clause-text g c = rw c.in-Help.is (ready_held _ _ c.help.result c.ready_of-in-Help.result c.ready_of-in-Help.ensures (λ s memory. inl memory) c.help.ensures)

pub returns-in-Help-clause-by_lines : goal.returns-in-Help-clause-by_lines
returns-in-Help-clause-by_lines g c = held_is _ c.help.result c.ready_of-in-Help.result c.ready_of-in-Help.ensures

pub returns-in-Help-clause-reports : goal.returns-in-Help-clause-reports
returns-in-Help-clause-reports g c = all_kept (λ b. (goal.Report-dyn g (b.vtable, b.value)).text b.value) (λ b. (goal.Report-dyn g (b.vtable, b.value)).label b.value) (λ b. (goal.Report-dyn g (b.vtable, b.value)).report_faults b.value) _ c.args.reports.now.items

pub returns-in-Tree-clause-text : goal.returns-in-Tree-clause-text
returns-in-Tree-clause-text g c =
    let asked = c.args.asked.now in
    let its = subst (λ (names : List (List ℕ)). MeetsBut IsMemory ready_text (tree_in c.args.profile asked.root asked.target asked.options.form names c.args.texts) c.tree.result) c.items-names.ensures.items c.tree.ensures in
    rw c.in-Tree.is (meets_wider _ _ _ _ c.tree.result (λ s memory. inl memory) its)

pub returns-in-Tree-clause-reports : goal.returns-in-Tree-clause-reports
returns-in-Tree-clause-reports g c = all_kept (λ b. (goal.Report-dyn g (b.vtable, b.value)).text b.value) (λ b. (goal.Report-dyn g (b.vtable, b.value)).label b.value) (λ b. (goal.Report-dyn g (b.vtable, b.value)).report_faults b.value) _ c.args.reports.now.items

pub returns-in-Fmea-clause-text : goal.returns-in-Fmea-clause-text
returns-in-Fmea-clause-text g c =
    let asked = c.args.asked.now in
    let its = subst (λ (names : List (List ℕ)). MeetsBut IsMemory ready_text (fmea_in (is_set asked.options (codes "sheet")) c.args.profile asked.root (is_set asked.options (codes "all")) names c.args.texts) c.fmea.result) c.items-names.ensures.items c.fmea.ensures in
    rw c.in-Fmea.is (meets_wider _ _ _ _ c.fmea.result (λ s memory. inl memory) its)

pub returns-in-Fmea-clause-reports : goal.returns-in-Fmea-clause-reports
returns-in-Fmea-clause-reports g c = all_kept (λ b. (goal.Report-dyn g (b.vtable, b.value)).text b.value) (λ b. (goal.Report-dyn g (b.vtable, b.value)).label b.value) (λ b. (goal.Report-dyn g (b.vtable, b.value)).report_faults b.value) _ c.args.reports.now.items

pub returns-in-Explain-clause-reports : goal.returns-in-Explain-clause-reports
returns-in-Explain-clause-reports g c = all_kept (λ b. (goal.Report-dyn g (b.vtable, b.value)).text b.value) (λ b. (goal.Report-dyn g (b.vtable, b.value)).label b.value) (λ b. (goal.Report-dyn g (b.vtable, b.value)).report_faults b.value) _ c.args.reports.now.items

pub returns-in-Version-clause-reports : goal.returns-in-Version-clause-reports
returns-in-Version-clause-reports g c = all_kept (λ b. (goal.Report-dyn g (b.vtable, b.value)).text b.value) (λ b. (goal.Report-dyn g (b.vtable, b.value)).label b.value) (λ b. (goal.Report-dyn g (b.vtable, b.value)).report_faults b.value) _ c.args.reports.now.items

pub returns-in-Report-clause-text : goal.returns-in-Report-clause-text
returns-in-Report-clause-text g c =
    let asked = c.args.asked.now in
    let voices = voices_of (λ b. (goal.Report-dyn g (b.vtable, b.value)).label b.value) (λ b. (goal.Report-dyn g (b.vtable, b.value)).text b.value) c.args.reports.now.items in
    rw c.in-Report.is (ready_told _ _ c.report.result c.ready_of-in-Report.result c.ready_of-in-Report.ensures
    (told_as _ c.args.profile asked.root asked.target asked.options.paging.max_order voices c.args.texts c.report.result c.items.result.now asked.options.chosen c.items.ensures.items c.report.ensures.text))

pub returns-in-Report-clause-by_lines : goal.returns-in-Report-clause-by_lines
returns-in-Report-clause-by_lines g c = held_is _ c.report.result c.ready_of-in-Report.result c.ready_of-in-Report.ensures

pub returns-in-Compare-clause-text : goal.returns-in-Compare-clause-text
returns-in-Compare-clause-text g c = rw c.in-Compare.is (ready_held _ _ c.compare.result c.ready_of-in-Compare.result c.ready_of-in-Compare.ensures (λ s memory. inl memory) c.compare.ensures)

pub returns-in-Compare-clause-by_lines : goal.returns-in-Compare-clause-by_lines
returns-in-Compare-clause-by_lines g c = held_is _ c.compare.result c.ready_of-in-Compare.result c.ready_of-in-Compare.ensures

pub returns-in-Compare-clause-reports : goal.returns-in-Compare-clause-reports
returns-in-Compare-clause-reports g c = all_kept (λ b. (goal.Report-dyn g (b.vtable, b.value)).text b.value) (λ b. (goal.Report-dyn g (b.vtable, b.value)).label b.value) (λ b. (goal.Report-dyn g (b.vtable, b.value)).report_faults b.value) _ c.args.reports.now.items

pub returns-in-Require-clause-text : goal.returns-in-Require-clause-text
returns-in-Require-clause-text g c = inr (inl refl)

pub returns-in-Require-clause-reports : goal.returns-in-Require-clause-reports
returns-in-Require-clause-reports g c = all_kept (λ b. (goal.Report-dyn g (b.vtable, b.value)).text b.value) (λ b. (goal.Report-dyn g (b.vtable, b.value)).label b.value) (λ b. (goal.Report-dyn g (b.vtable, b.value)).report_faults b.value) _ c.args.reports.now.items
