use Rattle.std.proofs.Common.{◌≡◌, ◌<◌, List, ℕ, length, subst}
use Rattle.cut_reports.specs.Feeding.{IsKept, RoseAt}
use Rattle.cut_reports.specs.Places.{AtChosen}
use Rattle.system_answers.specs.Voices.{labels, voices_of}
use Rattle.system_answers.proofs.Reported.{all_kept}
use Rattle.fta_outside.specs.Outside.{Took, TookPrefix}
use Rattle.fta_run.specs.Line.{status_line}
use Rattle.fta_run.specs.Files.{most_files}
use Rattle.fta_run.specs.Words.{GiveNoRequest, IsRequest, Request, file_words}
use Rattle.fta_run.specs.inner.Held.{IsReportCaused}
use Rattle.explained_calls.specs.inner.Calls.{call_or}
use Rattle.explained_calls.proofs.call.run_explained.Goals as goal

pub returns-in-Ok-clause-line : goal.returns-in-Ok-clause-line
returns-in-Ok-clause-line g c no_fault =
    let voices = voices_of (λ b. (goal.Report-dyn g (b.vtable, b.value)).label b.value) (λ b. (goal.Report-dyn g (b.vtable, b.value)).text b.value) c.args.reports.now.items in
    subst (λ (call : List (List ℕ)). Took (status_line (file_words (call_or call c.args.words.now)) (labels voices) c.run_or_explain.result) (g.E.Sink.seen c.args.err.now) (g.E.Sink.seen c.run_or_explain.new.err)) c.in-Ok.ensures (c.run_or_explain.ensures.line no_fault)

pub returns-in-Ok-clause-at_most_the_line : goal.returns-in-Ok-clause-at_most_the_line
returns-in-Ok-clause-at_most_the_line g c =
    let voices = voices_of (λ b. (goal.Report-dyn g (b.vtable, b.value)).label b.value) (λ b. (goal.Report-dyn g (b.vtable, b.value)).text b.value) c.args.reports.now.items in
    subst (λ (call : List (List ℕ)). TookPrefix (status_line (file_words (call_or call c.args.words.now)) (labels voices) c.run_or_explain.result) (g.E.Sink.seen c.args.err.now) (g.E.Sink.seen c.run_or_explain.new.err)) c.in-Ok.ensures c.run_or_explain.ensures.at_most_the_line

pub returns-in-Ok-clause-reports : goal.returns-in-Ok-clause-reports
returns-in-Ok-clause-reports g c =
    let voices = voices_of (λ b. (goal.Report-dyn g (b.vtable, b.value)).label b.value) (λ b. (goal.Report-dyn g (b.vtable, b.value)).text b.value) c.args.reports.now.items in
    subst (λ (call : List (List ℕ)). (asked : Request) → IsRequest (labels voices) (call_or call c.args.words.now) asked → AtChosen asked.options.chosen (IsKept (λ b. (goal.Report-dyn g (b.vtable, b.value)).text b.value) (λ b. (goal.Report-dyn g (b.vtable, b.value)).label b.value) (λ b. (goal.Report-dyn g (b.vtable, b.value)).report_faults b.value)) c.args.reports.now.items c.run_or_explain.new.reports.items) c.in-Ok.ensures c.run_or_explain.ensures.reports

pub returns-in-Ok-clause-no_reports : goal.returns-in-Ok-clause-no_reports
returns-in-Ok-clause-no_reports g c =
    let voices = voices_of (λ b. (goal.Report-dyn g (b.vtable, b.value)).label b.value) (λ b. (goal.Report-dyn g (b.vtable, b.value)).text b.value) c.args.reports.now.items in
    subst (λ (call : List (List ℕ)). GiveNoRequest (labels voices) (call_or call c.args.words.now) → c.run_or_explain.new.reports ≡ c.args.reports.now) c.in-Ok.ensures c.run_or_explain.ensures.no_reports

pub returns-in-Ok-clause-report_fault : goal.returns-in-Ok-clause-report_fault
returns-in-Ok-clause-report_fault g c =
    let voices = voices_of (λ b. (goal.Report-dyn g (b.vtable, b.value)).label b.value) (λ b. (goal.Report-dyn g (b.vtable, b.value)).text b.value) c.args.reports.now.items in
    subst (λ (call : List (List ℕ)). IsReportCaused (labels voices) (call_or call c.args.words.now) (λ place. RoseAt (λ b. (goal.Report-dyn g (b.vtable, b.value)).report_faults b.value) place c.args.reports.now.items c.run_or_explain.new.reports.items) c.run_or_explain.result) c.in-Ok.ensures c.run_or_explain.ensures.report_fault

pub returns-in-Ok-clause-no_files : goal.returns-in-Ok-clause-no_files
returns-in-Ok-clause-no_files g c =
    let voices = voices_of (λ b. (goal.Report-dyn g (b.vtable, b.value)).label b.value) (λ b. (goal.Report-dyn g (b.vtable, b.value)).text b.value) c.args.reports.now.items in
    subst (λ (call : List (List ℕ)). GiveNoRequest (labels voices) (call_or call c.args.words.now) → c.run_or_explain.new.files ≡ c.args.files.now) c.in-Ok.ensures c.run_or_explain.ensures.no_files

pub returns-in-Ok-clause-too_many : goal.returns-in-Ok-clause-too_many
returns-in-Ok-clause-too_many g c =
    subst (λ (call : List (List ℕ)). most_files < length (file_words (call_or call c.args.words.now)) → c.run_or_explain.new.files ≡ c.args.files.now) c.in-Ok.ensures c.run_or_explain.ensures.too_many

pub returns-in-Err-clause-reports : goal.returns-in-Err-clause-reports
returns-in-Err-clause-reports g c = λ asked is. all_kept (λ b. (goal.Report-dyn g (b.vtable, b.value)).text b.value) (λ b. (goal.Report-dyn g (b.vtable, b.value)).label b.value) (λ b. (goal.Report-dyn g (b.vtable, b.value)).report_faults b.value) _ c.args.reports.now.items
