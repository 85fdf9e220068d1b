use Rattle.std.proofs.Common.{◌≡◌, List, ℕ, map, refl, sym, subst, inl, inr}
use Rattle.system_answers.specs.Voices.{labels, voices_of}
use Rattle.system_answers.proofs.Reported.{all_kept, labels_are}
use Rattle.cut_reports.specs.Feeding.{RoseAt}
use Rattle.fta_outside.specs.Outside.{Took, TookPrefix}
use Rattle.fta_run.specs.Line.{status_line}
use Rattle.fta_run.specs.Words.{file_words}
use Rattle.fta_run.proofs.Read.{none_failed}
use Rattle.fta_run.proofs.held.run_read.Goals as goal

pub returns-in-Ok-clause-told : goal.returns-in-Ok-clause-told
returns-in-Ok-clause-told g c =
    inr (c.in-Ok.read.names, c.in-Ok.read.texts, c.in-Ok.ensures.named, c.in-Ok.ensures.fronts, c.run_held.ensures.told (g.F.Files.contents c.args.files.now) c.in-Ok.ensures.named c.in-Ok.ensures.fronts)

pub returns-in-Err-clause-told : goal.returns-in-Err-clause-told
returns-in-Err-clause-told g c = inl (c.in-Err.ensures.fault, refl)

pub returns-in-Err-clause-line : goal.returns-in-Err-clause-line
returns-in-Err-clause-line g c no_fault =
    let names = sym (labels_are (λ b. (goal.Report-dyn g (b.vtable, b.value)).label b.value) (λ b. (goal.Report-dyn g (b.vtable, b.value)).text b.value) c.args.reports.now.items) in
    subst (λ (its : List (List ℕ)). Took (status_line (file_words c.args.words.now) its c.in-Err.status) (g.E.Sink.seen c.args.err.now) (g.E.Sink.seen c.write_status.new.err)) names (c.write_status.ensures.line no_fault)

pub returns-in-Err-clause-at_most_the_line : goal.returns-in-Err-clause-at_most_the_line
returns-in-Err-clause-at_most_the_line g c =
    let names = sym (labels_are (λ b. (goal.Report-dyn g (b.vtable, b.value)).label b.value) (λ b. (goal.Report-dyn g (b.vtable, b.value)).text b.value) c.args.reports.now.items) in
    subst (λ (its : List (List ℕ)). TookPrefix (status_line (file_words c.args.words.now) its c.in-Err.status) (g.E.Sink.seen c.args.err.now) (g.E.Sink.seen c.write_status.new.err)) names c.write_status.ensures.at_most_the_line

pub returns-in-Err-clause-reports : goal.returns-in-Err-clause-reports
returns-in-Err-clause-reports g c = λ asked is. all_kept (λ b. (goal.Report-dyn g (b.vtable, b.value)).text b.value) (λ b. (goal.Report-dyn g (b.vtable, b.value)).label b.value) (λ b. (goal.Report-dyn g (b.vtable, b.value)).report_faults b.value) _ c.args.reports.now.items

pub returns-in-Err-clause-report_fault : goal.returns-in-Err-clause-report_fault
returns-in-Err-clause-report_fault g c =
    none_failed (labels (voices_of (λ b. (goal.Report-dyn g (b.vtable, b.value)).label b.value) (λ b. (goal.Report-dyn g (b.vtable, b.value)).text b.value) c.args.reports.now.items)) c.args.words.now
    (λ place. RoseAt (λ b. (goal.Report-dyn g (b.vtable, b.value)).report_faults b.value) place c.args.reports.now.items c.args.reports.now.items) (file_words c.args.words.now) (g.F.Files.faults c.args.files.now) (g.F.Files.faults c.read_first.new.files)
    c.in-Err.status c.in-Err.ensures.fault

pub returns-in-Err-clause-begins : goal.returns-in-Err-clause-begins
returns-in-Err-clause-begins g c = λ asked is other memory. refl
