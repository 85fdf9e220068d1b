use Rattle.std.proofs.Common.{List, ℕ, ◌++◌, map, subst}
use Rattle.fta_outside.specs.inner.Outside.{Writes}
use Rattle.explained_calls.specs.inner.Texts.{line_before}
use Rattle.explained_calls.proofs.call.write_for.Goals as goal

pub returns : goal.returns
returns g c =
    subst
    (λ (names : List (List ℕ)).
    Writes (line_before names (map (λ b. (goal.Report-dyn g (b.vtable, b.value)).label b.value) c.args.reports.now.items) c.args.status.now ++ c.args.more.now) c.write_both.result (g.S.Sink.seen c.args.out.now) (g.S.Sink.seen c.write_both.new.out))
    c.items.ensures.items c.write_both.ensures
