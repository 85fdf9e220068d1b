use Rattle.std.proofs.Common.{◌≡◌, List, ℕ, map, sym, subst, ◌∙◌}
use Rattle.system_answers.specs.Voices.{labels, voices_of}
use Rattle.system_answers.proofs.Reported.{labels_are}
use Rattle.fta_outside.specs.Outside.{Took as TookAll, TookPrefix}
use Rattle.fta_run.specs.Answers.{Took}
use Rattle.fta_run.specs.Line.{status_line}
use Rattle.fta_run.specs.Words.{file_words}
use Rattle.explained_calls.specs.inner.Texts.{ExplainsEnd}
use Rattle.explained_calls.proofs.Choices.{report_failed}
use Rattle.explained_calls.proofs.call.explain_read.Goals as goal

pub returns-clause-told : goal.returns-clause-told
returns-clause-told g c contents named fronts =
    let names = c.run_held-its_end.ensures.names ∙ sym (labels_are (λ b. (goal.Report-dyn g (b.vtable, b.value)).label b.value) (λ b. (goal.Report-dyn g (b.vtable, b.value)).text b.value) c.args.reports.now.items) in
    record {
      its_end = c.run_held-its_end.result;
      ran = c.run_held-its_end.ensures.told contents named fronts;
      took = subst (λ (its : List (List ℕ)). Took (ExplainsEnd its c.args.call.now c.args.read.now.names c.args.read.now.texts c.run_held-its_end.result) c.tell-status.result (g.S.Sink.seen c.args.out.now) (g.S.Sink.seen c.tell-status.new.out)) names c.tell-status.ensures.took;
      ends = c.tell-status.ensures.ends;
    }

pub returns-clause-line : goal.returns-clause-line
returns-clause-line g c no_fault =
    let names = c.run_held-its_end.ensures.names ∙ sym (labels_are (λ b. (goal.Report-dyn g (b.vtable, b.value)).label b.value) (λ b. (goal.Report-dyn g (b.vtable, b.value)).text b.value) c.args.reports.now.items) in
    subst (λ (its : List (List ℕ)). TookAll (status_line (file_words c.args.call.now) its c.tell-status.result) (g.E.Sink.seen c.args.err.now) (g.E.Sink.seen c.write_status.new.err)) names (c.write_status.ensures.line no_fault)

pub returns-clause-at_most_the_line : goal.returns-clause-at_most_the_line
returns-clause-at_most_the_line g c =
    let names = c.run_held-its_end.ensures.names ∙ sym (labels_are (λ b. (goal.Report-dyn g (b.vtable, b.value)).label b.value) (λ b. (goal.Report-dyn g (b.vtable, b.value)).text b.value) c.args.reports.now.items) in
    subst (λ (its : List (List ℕ)). TookPrefix (status_line (file_words c.args.call.now) its c.tell-status.result) (g.E.Sink.seen c.args.err.now) (g.E.Sink.seen c.write_status.new.err)) names c.write_status.ensures.at_most_the_line

pub returns-clause-report_fault : goal.returns-clause-report_fault
returns-clause-report_fault g c =
    report_failed _ c.args.call.now _ c.run_held-its_end.result c.tell-status.result (g.S.Sink.seen c.args.out.now) (g.S.Sink.seen c.tell-status.new.out) c.tell-status.ensures.ends c.run_held-its_end.ensures.report_fault
