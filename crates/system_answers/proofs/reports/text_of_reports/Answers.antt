use Rattle.std.proofs.Common.{◌∙◌, Some, length, sym, ap, subst}
use Rattle.std.proofs.lemmas.Result.{IfErr-weaker, IfOk-weaker}
use Rattle.cutset_lister.specs.inner.Walks.{all_sets}
use Rattle.cut_reports.specs.inner.Feeding.{TakesEach}
use Rattle.cut_reports.specs.Texts.{reports_text}
use Rattle.system_answers.specs.Voices.{voices_of, voices_text}
use Rattle.system_answers.proofs.Reported.{counts_fit, reports_end, takes_listing, texts_are}
use Rattle.system_answers.proofs.reports.text_of_reports.Goals as goal

pub report_on_ledger-requires-clause-sets : goal.report_on_ledger-requires-clause-sets
report_on_ledger-requires-clause-sets g c =
    subst (TakesEach (Some (length c.items.result.now))) (sym c.in_ok-made.ensures.left)
    (takes_listing c.args.system.now c.args.part.now.target c.args.max_order (all_sets c.counted_sets.new.store c.in_ok-made.made.listing) c.items.result.now c.in_ok-made.ensures.listing (c.items.ensures.items ∙ c.in_ok-names.ensures))

pub report_on_ledger-requires-clause-fits : goal.report_on_ledger-requires-clause-fits
report_on_ledger-requires-clause-fits g c = counts_fit c.args.system.now c.items.result.now c.in_ok-made.made.counts (c.items.ensures.items ∙ c.in_ok-names.ensures) c.in_ok-made.ensures.width

pub returns-clause-text : goal.returns-clause-text
returns-clause-text g c =
    let all = all_sets c.counted_sets.new.store c.in_ok-made.made.listing in
    let chosen = c.args.chosen.now in
    let reports = c.args.reports.now.items in
    IfOk-weaker c.report_on_ledger.result _ _
    (λ made is. record {
      passed = (
        all,
        c.in_ok-made.ensures.listing,
        is ∙ ap (λ sets. reports_text (λ b. (goal.Report-dyn g (b.vtable, b.value)).label b.value) (λ b. (goal.Report-dyn g (b.vtable, b.value)).text b.value) chosen sets c.items.result.now reports) c.in_ok-made.ensures.left
            ∙ ap (λ names. reports_text (λ b. (goal.Report-dyn g (b.vtable, b.value)).label b.value) (λ b. (goal.Report-dyn g (b.vtable, b.value)).text b.value) chosen all names reports) (c.items.ensures.items ∙ c.in_ok-names.ensures)
            ∙ sym (texts_are (λ b. (goal.Report-dyn g (b.vtable, b.value)).label b.value) (λ b. (goal.Report-dyn g (b.vtable, b.value)).text b.value) chosen all c.args.system.now reports),
      );
    }) c.report_on_ledger.ensures.text

pub returns-clause-failed : goal.returns-clause-failed
returns-clause-failed g c =
    let all = all_sets c.counted_sets.new.store c.in_ok-made.made.listing in
    let chosen = c.args.chosen.now in
    let voices = voices_of (λ b. (goal.Report-dyn g (b.vtable, b.value)).label b.value) (λ b. (goal.Report-dyn g (b.vtable, b.value)).text b.value) c.args.reports.now.items in
    IfErr-weaker c.report_on_ledger.result _ _
    (λ status end. reports_end chosen _ _ (voices_text chosen all c.args.system.now voices) status (record { passed = (all, c.in_ok-made.ensures.listing, λ i. voices_text chosen all c.args.system.now voices) }) end) c.report_on_ledger.ensures.failed
