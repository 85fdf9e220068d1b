use Rattle.std.proofs.Common.{List, subst}
use Rattle.fta_outside.specs.Outside.{Took, TookPrefix}
use Rattle.system_answers.specs.Voices.{Voice, labels}
use Rattle.fta_run.specs.Line.{status_line}
use Rattle.fta_run.specs.Words.{file_words}
use Rattle.explained_calls.specs.inner.Calls.{Comes, asked_words}
use Rattle.fta_start.proofs.run_own.Goals as goal

pub returns-clause-comes : goal.returns-clause-comes
returns-clause-comes g c =
    subst (λ (voices : List Voice). Comes c.args.words.now (g.F.Files.contents c.args.files.now) (g.F.Files.faults c.args.files.now) (g.F.Files.faults c.run_explained.new.files) voices c.run_explained.result (g.S.Sink.seen c.args.out.now) (g.S.Sink.seen c.run_explained.new.out)) c.requires
    c.run_explained.ensures.comes

pub returns-clause-line : goal.returns-clause-line
returns-clause-line g c no_fault =
    subst (λ (voices : List Voice). Took (status_line (file_words (asked_words c.args.words.now)) (labels voices) c.run_explained.result) (g.E.Sink.seen c.args.err.now) (g.E.Sink.seen c.run_explained.new.err)) c.requires (c.run_explained.ensures.line no_fault)

pub returns-clause-at_most_the_line : goal.returns-clause-at_most_the_line
returns-clause-at_most_the_line g c =
    subst (λ (voices : List Voice). TookPrefix (status_line (file_words (asked_words c.args.words.now)) (labels voices) c.run_explained.result) (g.E.Sink.seen c.args.err.now) (g.E.Sink.seen c.run_explained.new.err)) c.requires c.run_explained.ensures.at_most_the_line
