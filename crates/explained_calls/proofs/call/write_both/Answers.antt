use Rattle.std.proofs.Common.{map, refl}
use Rattle.fta_outside.proofs.Writing.{wrote_then}
use Rattle.explained_calls.specs.inner.Texts.{line_before}
use Rattle.explained_calls.proofs.call.write_both.Goals as goal

pub returns : goal.returns
returns g c =
    wrote_then (λ _. ⊥) c.write_all.result (g.S.Sink.seen c.args.out.now) (g.S.Sink.seen c.write_before.new.out) (g.S.Sink.seen c.write_all.new.sink)
    (line_before c.args.files.now (map (λ b. (goal.Report-dyn g (b.vtable, b.value)).label b.value) c.args.reports.now.items) c.args.status.now) c.args.more.now _ refl c.in_ok-write_before.ensures.0 c.in_ok-write_before.ensures.1 c.write_all.ensures
