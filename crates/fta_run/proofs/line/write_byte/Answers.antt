use Rattle.std.proofs.Common.{◌++◌, codes, decimal, sym, append_assoc}
use Rattle.std.proofs.lemmas.Result.{err_from_is_err_and}
use Rattle.fta_outside.proofs.Writing.{wrote_not, wrote_then}
use Rattle.fta_run.proofs.line.write_byte.Goals as goal

pub returns-in_err-write_two : goal.returns-in_err-write_two
returns-in_err-write_two g c =
    let p = err_from_is_err_and c.from_residual.result c.from_residual.ensures.1 in
    wrote_not (λ _. ⊥) c.from_residual.result p.0 p.1 (g.E.Sink.seen c.args.err.now) (g.E.Sink.seen c.write_two.new.err) (codes " " ++ c.args.file.now) (codes ":" ++ decimal c.args.at) _ (sym (append_assoc (codes " ") c.args.file.now _)) c.in_err-write_two.ensures

pub returns : goal.returns
returns g c =
    wrote_then (λ _. ⊥) c.write_number.result (g.E.Sink.seen c.args.err.now) (g.E.Sink.seen c.write_two.new.err) (g.E.Sink.seen c.write_number.new.err) (codes " " ++ c.args.file.now) (codes ":" ++ decimal c.args.at) _ (sym (append_assoc (codes " ") c.args.file.now _)) c.in_ok-write_two.ensures.0 c.in_ok-write_two.ensures.1 c.write_number.ensures
