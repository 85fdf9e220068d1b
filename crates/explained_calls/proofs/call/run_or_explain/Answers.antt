use Rattle.std.proofs.Common.{◌≡◌, ◌<◌, List, ℕ, length, sym, subst, ◌∙◌}
use Rattle.cut_reports.specs.Feeding.{IsKept, RoseAt}
use Rattle.cut_reports.specs.Places.{AtChosen}
use Rattle.system_answers.specs.Voices.{labels, voices_of}
use Rattle.fta_outside.specs.Outside.{Took, TookPrefix}
use Rattle.fta_run.specs.Line.{status_line}
use Rattle.fta_run.specs.Files.{most_files}
use Rattle.fta_run.specs.Words.{GiveNoRequest, IsRequest, Request, file_words}
use Rattle.fta_run.specs.inner.Held.{IsReportCaused}
use Rattle.explained_calls.proofs.Choices.{is_explained, is_run, no_words, some_words, words_explained, words_run}
use Rattle.explained_calls.proofs.call.run_or_explain.Goals as goal

pub returns-then-is_empty-clause-comes : goal.returns-then-is_empty-clause-comes
returns-then-is_empty-clause-comes g c =
    is_run c.args.words.now _ _ _ _ c.run_read.result _ _ c.args.call.now (no_words c.args.call.now (sym c.is_empty.ensures ∙ c.if-is_empty.true))
    (record { usage = c.run_read.ensures.words; told = c.run_read.ensures.told; begins = c.run_read.ensures.begins; many = c.run_read.ensures.many })

pub returns-then-is_empty-clause-line : goal.returns-then-is_empty-clause-line
returns-then-is_empty-clause-line g c no_fault =
    let voices = voices_of (λ b. (goal.Report-dyn g (b.vtable, b.value)).label b.value) (λ b. (goal.Report-dyn g (b.vtable, b.value)).text b.value) c.args.reports.now.items in
    let are = words_run c.args.call.now c.args.words.now (no_words c.args.call.now (sym c.is_empty.ensures ∙ c.if-is_empty.true)) in
    subst (λ (w : List (List ℕ)). Took (status_line (file_words w) (labels voices) c.run_read.result) (g.E.Sink.seen c.args.err.now) (g.E.Sink.seen c.run_read.new.err)) (sym are) (c.run_read.ensures.line no_fault)

pub returns-then-is_empty-clause-at_most_the_line : goal.returns-then-is_empty-clause-at_most_the_line
returns-then-is_empty-clause-at_most_the_line g c =
    let voices = voices_of (λ b. (goal.Report-dyn g (b.vtable, b.value)).label b.value) (λ b. (goal.Report-dyn g (b.vtable, b.value)).text b.value) c.args.reports.now.items in
    let are = words_run c.args.call.now c.args.words.now (no_words c.args.call.now (sym c.is_empty.ensures ∙ c.if-is_empty.true)) in
    subst (λ (w : List (List ℕ)). TookPrefix (status_line (file_words w) (labels voices) c.run_read.result) (g.E.Sink.seen c.args.err.now) (g.E.Sink.seen c.run_read.new.err)) (sym are) c.run_read.ensures.at_most_the_line

pub returns-clause-comes : goal.returns-clause-comes
returns-clause-comes g c =
    is_explained c.args.words.now _ _ _ _ c.explain.result _ _ c.args.call.now (some_words c.args.call.now (sym c.is_empty.ensures ∙ c.if-is_empty.false)) c.explain.ensures.told

pub returns-clause-line : goal.returns-clause-line
returns-clause-line g c no_fault =
    let voices = voices_of (λ b. (goal.Report-dyn g (b.vtable, b.value)).label b.value) (λ b. (goal.Report-dyn g (b.vtable, b.value)).text b.value) c.args.reports.now.items in
    let are = words_explained c.args.call.now c.args.words.now (some_words c.args.call.now (sym c.is_empty.ensures ∙ c.if-is_empty.false)) in
    subst (λ (w : List (List ℕ)). Took (status_line (file_words w) (labels voices) c.explain.result) (g.E.Sink.seen c.args.err.now) (g.E.Sink.seen c.explain.new.err)) (sym are) (c.explain.ensures.line no_fault)

pub returns-clause-at_most_the_line : goal.returns-clause-at_most_the_line
returns-clause-at_most_the_line g c =
    let voices = voices_of (λ b. (goal.Report-dyn g (b.vtable, b.value)).label b.value) (λ b. (goal.Report-dyn g (b.vtable, b.value)).text b.value) c.args.reports.now.items in
    let are = words_explained c.args.call.now c.args.words.now (some_words c.args.call.now (sym c.is_empty.ensures ∙ c.if-is_empty.false)) in
    subst (λ (w : List (List ℕ)). TookPrefix (status_line (file_words w) (labels voices) c.explain.result) (g.E.Sink.seen c.args.err.now) (g.E.Sink.seen c.explain.new.err)) (sym are) c.explain.ensures.at_most_the_line

pub returns-then-is_empty-clause-reports : goal.returns-then-is_empty-clause-reports
returns-then-is_empty-clause-reports g c =
    let voices = voices_of (λ b. (goal.Report-dyn g (b.vtable, b.value)).label b.value) (λ b. (goal.Report-dyn g (b.vtable, b.value)).text b.value) c.args.reports.now.items in
    let are = words_run c.args.call.now c.args.words.now (no_words c.args.call.now (sym c.is_empty.ensures ∙ c.if-is_empty.true)) in
    subst (λ (w : List (List ℕ)). (asked : Request) → IsRequest (labels voices) w asked → AtChosen asked.options.chosen (IsKept (λ b. (goal.Report-dyn g (b.vtable, b.value)).text b.value) (λ b. (goal.Report-dyn g (b.vtable, b.value)).label b.value) (λ b. (goal.Report-dyn g (b.vtable, b.value)).report_faults b.value)) c.args.reports.now.items c.run_read.new.reports.items) (sym are) c.run_read.ensures.reports

pub returns-then-is_empty-clause-no_reports : goal.returns-then-is_empty-clause-no_reports
returns-then-is_empty-clause-no_reports g c =
    let voices = voices_of (λ b. (goal.Report-dyn g (b.vtable, b.value)).label b.value) (λ b. (goal.Report-dyn g (b.vtable, b.value)).text b.value) c.args.reports.now.items in
    let are = words_run c.args.call.now c.args.words.now (no_words c.args.call.now (sym c.is_empty.ensures ∙ c.if-is_empty.true)) in
    subst (λ (w : List (List ℕ)). GiveNoRequest (labels voices) w → c.run_read.new.reports ≡ c.args.reports.now) (sym are) c.run_read.ensures.no_reports

pub returns-then-is_empty-clause-report_fault : goal.returns-then-is_empty-clause-report_fault
returns-then-is_empty-clause-report_fault g c =
    let voices = voices_of (λ b. (goal.Report-dyn g (b.vtable, b.value)).label b.value) (λ b. (goal.Report-dyn g (b.vtable, b.value)).text b.value) c.args.reports.now.items in
    let are = words_run c.args.call.now c.args.words.now (no_words c.args.call.now (sym c.is_empty.ensures ∙ c.if-is_empty.true)) in
    subst (λ (w : List (List ℕ)). IsReportCaused (labels voices) w (λ place. RoseAt (λ b. (goal.Report-dyn g (b.vtable, b.value)).report_faults b.value) place c.args.reports.now.items c.run_read.new.reports.items) c.run_read.result) (sym are) c.run_read.ensures.report_fault

pub returns-then-is_empty-clause-no_files : goal.returns-then-is_empty-clause-no_files
returns-then-is_empty-clause-no_files g c =
    let voices = voices_of (λ b. (goal.Report-dyn g (b.vtable, b.value)).label b.value) (λ b. (goal.Report-dyn g (b.vtable, b.value)).text b.value) c.args.reports.now.items in
    let are = words_run c.args.call.now c.args.words.now (no_words c.args.call.now (sym c.is_empty.ensures ∙ c.if-is_empty.true)) in
    subst (λ (w : List (List ℕ)). GiveNoRequest (labels voices) w → c.run_read.new.files ≡ c.args.files.now) (sym are) c.run_read.ensures.no_files

pub returns-then-is_empty-clause-too_many : goal.returns-then-is_empty-clause-too_many
returns-then-is_empty-clause-too_many g c =
    let are = words_run c.args.call.now c.args.words.now (no_words c.args.call.now (sym c.is_empty.ensures ∙ c.if-is_empty.true)) in
    subst (λ (w : List (List ℕ)). most_files < length (file_words w) → c.run_read.new.files ≡ c.args.files.now) (sym are) c.run_read.ensures.too_many

pub returns-clause-reports : goal.returns-clause-reports
returns-clause-reports g c =
    let voices = voices_of (λ b. (goal.Report-dyn g (b.vtable, b.value)).label b.value) (λ b. (goal.Report-dyn g (b.vtable, b.value)).text b.value) c.args.reports.now.items in
    let are = words_explained c.args.call.now c.args.words.now (some_words c.args.call.now (sym c.is_empty.ensures ∙ c.if-is_empty.false)) in
    subst (λ (w : List (List ℕ)). (asked : Request) → IsRequest (labels voices) w asked → AtChosen asked.options.chosen (IsKept (λ b. (goal.Report-dyn g (b.vtable, b.value)).text b.value) (λ b. (goal.Report-dyn g (b.vtable, b.value)).label b.value) (λ b. (goal.Report-dyn g (b.vtable, b.value)).report_faults b.value)) c.args.reports.now.items c.explain.new.reports.items) (sym are) c.explain.ensures.reports

pub returns-clause-no_reports : goal.returns-clause-no_reports
returns-clause-no_reports g c =
    let voices = voices_of (λ b. (goal.Report-dyn g (b.vtable, b.value)).label b.value) (λ b. (goal.Report-dyn g (b.vtable, b.value)).text b.value) c.args.reports.now.items in
    let are = words_explained c.args.call.now c.args.words.now (some_words c.args.call.now (sym c.is_empty.ensures ∙ c.if-is_empty.false)) in
    subst (λ (w : List (List ℕ)). GiveNoRequest (labels voices) w → c.explain.new.reports ≡ c.args.reports.now) (sym are) c.explain.ensures.no_reports

pub returns-clause-report_fault : goal.returns-clause-report_fault
returns-clause-report_fault g c =
    let voices = voices_of (λ b. (goal.Report-dyn g (b.vtable, b.value)).label b.value) (λ b. (goal.Report-dyn g (b.vtable, b.value)).text b.value) c.args.reports.now.items in
    let are = words_explained c.args.call.now c.args.words.now (some_words c.args.call.now (sym c.is_empty.ensures ∙ c.if-is_empty.false)) in
    subst (λ (w : List (List ℕ)). IsReportCaused (labels voices) w (λ place. RoseAt (λ b. (goal.Report-dyn g (b.vtable, b.value)).report_faults b.value) place c.args.reports.now.items c.explain.new.reports.items) c.explain.result) (sym are) c.explain.ensures.report_fault

pub returns-clause-no_files : goal.returns-clause-no_files
returns-clause-no_files g c =
    let voices = voices_of (λ b. (goal.Report-dyn g (b.vtable, b.value)).label b.value) (λ b. (goal.Report-dyn g (b.vtable, b.value)).text b.value) c.args.reports.now.items in
    let are = words_explained c.args.call.now c.args.words.now (some_words c.args.call.now (sym c.is_empty.ensures ∙ c.if-is_empty.false)) in
    subst (λ (w : List (List ℕ)). GiveNoRequest (labels voices) w → c.explain.new.files ≡ c.args.files.now) (sym are) c.explain.ensures.no_files

pub returns-clause-too_many : goal.returns-clause-too_many
returns-clause-too_many g c =
    let are = words_explained c.args.call.now c.args.words.now (some_words c.args.call.now (sym c.is_empty.ensures ∙ c.if-is_empty.false)) in
    subst (λ (w : List (List ℕ)). most_files < length (file_words w) → c.explain.new.files ≡ c.args.files.now) (sym are) c.explain.ensures.too_many
