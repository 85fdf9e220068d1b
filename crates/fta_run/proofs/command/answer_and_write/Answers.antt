use Rattle.std.proofs.lemmas.Result.{err_from_is_err_and}
use Rattle.system_answers.specs.Voices.{voices_of}
use Rattle.fta_run.specs.inner.Ready.{ready_text}
use Rattle.fta_run.proofs.Ran.{ran_cut, ran_quiet}
use Rattle.fta_run.proofs.command.answer_and_write.Goals as goal

pub returns-in_err-answer-clause-end : goal.returns-in_err-answer-clause-end
returns-in_err-answer-clause-end g c =
    let voices = voices_of (λ b. (goal.Report-dyn g (b.vtable, b.value)).label b.value) (λ b. (goal.Report-dyn g (b.vtable, b.value)).text b.value) c.args.reports.now.items in
    ran_quiet c.args.words.now (g.F.Files.contents c.args.files.now) voices _ _ _ (g.S.Sink.seen c.args.out.now) c.in_err-answer.field-0.0 c.from_residual.result c.from_residual.ensures.1 c.in_err-answer.ensures.text

pub returns-in_err-answer-clause-many : goal.returns-in_err-answer-clause-many
returns-in_err-answer-clause-many g c many = let p = err_from_is_err_and c.from_residual.result c.from_residual.ensures.1 in rw (p.1, p.2) (c.in_err-answer.ensures.many many)

pub returns-in_err-write-clause-end : goal.returns-in_err-write-clause-end
returns-in_err-write-clause-end g c =
    let voices = voices_of (λ b. (goal.Report-dyn g (b.vtable, b.value)).label b.value) (λ b. (goal.Report-dyn g (b.vtable, b.value)).text b.value) c.args.reports.now.items in
    ran_cut c.args.words.now (g.F.Files.contents c.args.files.now) voices _ _ _ (g.S.Sink.seen c.args.out.now) (g.S.Sink.seen c.write.new.out) c.in_ok-answer.answer c.in_err-write.field-0.0 c.from_residual-in_err-write.result c.from_residual-in_err-write.ensures.1
    c.in_ok-answer.ensures.text c.in_ok-answer.ensures.by_lines c.in_err-write.ensures.wrote.0 c.in_err-write.ensures.wanting

pub returns-in_err-write-clause-many : goal.returns-in_err-write-clause-many
returns-in_err-write-clause-many g c many = absurd (c.in_ok-answer.ensures.many many)

pub returns-clause-end : goal.returns-clause-end
returns-clause-end g c = (ready_text c.in_ok-answer.answer.ready, c.in_ok-answer.ensures.text, c.in_ok-write.ensures.wrote.0)

pub returns-clause-many : goal.returns-clause-many
returns-clause-many g c many = absurd (c.in_ok-answer.ensures.many many)
