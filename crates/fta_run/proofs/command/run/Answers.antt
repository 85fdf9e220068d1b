use Rattle.std.proofs.Common.{◌∙◌, ◌≡◌, List, ℕ, map, sym, subst}
use Rattle.system_answers.specs.Voices.{labels, voices_of}
use Rattle.system_answers.proofs.Reported.{labels_are}
use Rattle.fta_outside.specs.Outside.{Took, TookPrefix}
use Rattle.fta_run.specs.Line.{status_line}
use Rattle.fta_run.specs.Words.{file_words}
use Rattle.fta_run.specs.Answers.{AnswersWords, AskForSets, IsJustified, MayCome}
use Rattle.fta_run.proofs.Ran.{ran_begins, ran_caused, ran_complete, ran_output, ran_verdict, ran_words}
use Rattle.fta_run.proofs.command.run.Goals as goal

pub returns-clause-words : goal.returns-clause-words
returns-clause-words g c =
    let voices = voices_of (λ b. (goal.Report-dyn g (b.vtable, b.value)).label b.value) (λ b. (goal.Report-dyn g (b.vtable, b.value)).text b.value) c.args.reports.now.items in
    subst (λ status. AnswersWords status (labels voices) c.args.words.now) (sym c.ended-status.ensures) (ran_words c.args.words.now (g.F.Files.contents c.args.files.now) voices _ _ _ (g.S.Sink.seen c.args.out.now) (g.S.Sink.seen c.answer_and_write.new.out) c.answer_and_write.result c.answer_and_write.ensures.end)

pub returns-clause-verdict : goal.returns-clause-verdict
returns-clause-verdict g c =
    let voices = voices_of (λ b. (goal.Report-dyn g (b.vtable, b.value)).label b.value) (λ b. (goal.Report-dyn g (b.vtable, b.value)).text b.value) c.args.reports.now.items in
    let contents = g.F.Files.contents c.args.files.now in
    subst (IsJustified c.args.words.now contents voices) (sym c.ended-status.ensures) (ran_verdict c.args.words.now contents voices _ _ _ (g.S.Sink.seen c.args.out.now) (g.S.Sink.seen c.answer_and_write.new.out) c.answer_and_write.result c.answer_and_write.ensures.end)

pub returns-clause-complete : goal.returns-clause-complete
returns-clause-complete g c told its_due is_due =
    let voices = voices_of (λ b. (goal.Report-dyn g (b.vtable, b.value)).label b.value) (λ b. (goal.Report-dyn g (b.vtable, b.value)).text b.value) c.args.reports.now.items in
    let contents = g.F.Files.contents c.args.files.now in
    subst (MayCome (AskForSets c.args.words.now contents voices) its_due) (sym c.ended-status.ensures) (ran_complete c.args.words.now contents voices _ _ _ (g.S.Sink.seen c.args.out.now) (g.S.Sink.seen c.answer_and_write.new.out) c.answer_and_write.result c.answer_and_write.ensures.end told its_due is_due)

pub returns-clause-output : goal.returns-clause-output
returns-clause-output g c =
    let voices = voices_of (λ b. (goal.Report-dyn g (b.vtable, b.value)).label b.value) (λ b. (goal.Report-dyn g (b.vtable, b.value)).text b.value) c.args.reports.now.items in
    ran_output c.args.words.now (g.F.Files.contents c.args.files.now) voices _ _ _ (g.S.Sink.seen c.args.out.now) (g.S.Sink.seen c.answer_and_write.new.out) c.answer_and_write.result _ c.ended-status.ensures c.answer_and_write.ensures.end

pub returns-clause-begins : goal.returns-clause-begins
returns-clause-begins g c =
    let voices = voices_of (λ b. (goal.Report-dyn g (b.vtable, b.value)).label b.value) (λ b. (goal.Report-dyn g (b.vtable, b.value)).text b.value) c.args.reports.now.items in
    ran_begins c.args.words.now (g.F.Files.contents c.args.files.now) voices _ _ _ (g.S.Sink.seen c.args.out.now) (g.S.Sink.seen c.answer_and_write.new.out) c.answer_and_write.result _ c.ended-status.ensures c.answer_and_write.ensures.end

pub returns-clause-faults : goal.returns-clause-faults
returns-clause-faults g c =
    let voices = voices_of (λ b. (goal.Report-dyn g (b.vtable, b.value)).label b.value) (λ b. (goal.Report-dyn g (b.vtable, b.value)).text b.value) c.args.reports.now.items in
    ran_caused c.args.words.now (g.F.Files.contents c.args.files.now) voices _ _ _ (g.S.Sink.seen c.args.out.now) (g.S.Sink.seen c.answer_and_write.new.out) c.answer_and_write.result _ c.ended-status.ensures c.answer_and_write.ensures.end

pub returns-clause-line : goal.returns-clause-line
returns-clause-line g c no_fault =
    let voices = voices_of (λ b. (goal.Report-dyn g (b.vtable, b.value)).label b.value) (λ b. (goal.Report-dyn g (b.vtable, b.value)).text b.value) c.args.reports.now.items in
    let names : map (λ b. (goal.Report-dyn g (b.vtable, b.value)).label b.value) c.answer_and_write.new.reports.items ≡ labels voices = c.answer_and_write.ensures.names ∙ sym (labels_are (λ b. (goal.Report-dyn g (b.vtable, b.value)).label b.value) (λ b. (goal.Report-dyn g (b.vtable, b.value)).text b.value) c.args.reports.now.items) in
    subst (λ (its : List (List ℕ)). Took (status_line (file_words c.args.words.now) its c.ended-status.result) (g.E.Sink.seen c.args.err.now) (g.E.Sink.seen c.write_status.new.err)) names (c.write_status.ensures.line no_fault)

pub returns-clause-at_most_the_line : goal.returns-clause-at_most_the_line
returns-clause-at_most_the_line g c =
    let voices = voices_of (λ b. (goal.Report-dyn g (b.vtable, b.value)).label b.value) (λ b. (goal.Report-dyn g (b.vtable, b.value)).text b.value) c.args.reports.now.items in
    let names : map (λ b. (goal.Report-dyn g (b.vtable, b.value)).label b.value) c.answer_and_write.new.reports.items ≡ labels voices = c.answer_and_write.ensures.names ∙ sym (labels_are (λ b. (goal.Report-dyn g (b.vtable, b.value)).label b.value) (λ b. (goal.Report-dyn g (b.vtable, b.value)).text b.value) c.args.reports.now.items) in
    subst (λ (its : List (List ℕ)). TookPrefix (status_line (file_words c.args.words.now) its c.ended-status.result) (g.E.Sink.seen c.args.err.now) (g.E.Sink.seen c.write_status.new.err)) names c.write_status.ensures.at_most_the_line
