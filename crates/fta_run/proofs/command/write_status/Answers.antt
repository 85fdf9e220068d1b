use Rattle.std.proofs.Common.{map, subst}
use Rattle.fta_outside.specs.Outside.{TookPrefix}
use Rattle.fta_outside.proofs.Writing.{wrote_front}
use Rattle.fta_run.specs.Line.{status_line}
use Rattle.fta_run.proofs.command.write_status.Goals as goal

pub returns-clause-at_most_the_line : goal.returns-clause-at_most_the_line
returns-clause-at_most_the_line g c =
    let t = g.E.Sink.seen c.args.err.now in
    let u = g.E.Sink.seen c.write_line-written.new.err in
    subst (λ files. TookPrefix (status_line files (map (λ b. (goal.Report-dyn g (b.vtable, b.value)).label b.value) c.args.reports.now.items) c.args.status.now) t u) c.file_words-files.ensures
    (wrote_front (λ _. ⊥) c.write_line-written.result _ t u c.write_line-written.ensures)
