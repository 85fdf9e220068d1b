use Rattle.std.proofs.Common.{refl}
use Rattle.std.proofs.lemmas.Result.{err_from_is_err_and}
use Rattle.fta_outside.proofs.Writing.{wrote_not, wrote_then}
use Rattle.fta_run.proofs.ready.write_sized.Goals as goal

pub returns-in_err-write_all : goal.returns-in_err-write_all
returns-in_err-write_all g c =
    let p = err_from_is_err_and c.from_residual.result c.from_residual.ensures.1 in
    wrote_not (λ _. ⊥) c.from_residual.result p.0 p.1 (g.S.Sink.seen c.args.out.now) (g.S.Sink.seen c.write_all.new.sink) c.args.numbers.now c.args.page _ refl c.in_err-write_all.ensures

pub returns : goal.returns
returns g c =
    wrote_then (λ _. ⊥) c.write.result (g.S.Sink.seen c.args.out.now) (g.S.Sink.seen c.write_all.new.sink) (g.S.Sink.seen c.write.new.sink) c.args.numbers.now c.args.page _ refl c.in_ok-write_all.ensures.0 c.in_ok-write_all.ensures.1 c.write.ensures
