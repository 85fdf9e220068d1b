use Rattle.std.proofs.Common.{◌++◌, codes, refl}
use Rattle.std.proofs.lemmas.Result.{err_from_is_err_and}
use Rattle.fta_outside.proofs.Writing.{wrote_not, wrote_then}
use Rattle.fta_run.proofs.line.write_unread.Goals as goal

pub returns-in_err-write_piece : goal.returns-in_err-write_piece
returns-in_err-write_piece g c =
    let p = err_from_is_err_and c.from_residual.result c.from_residual.ensures.1 in
    wrote_not (λ _. ⊥) c.from_residual.result p.0 p.1 (g.E.Sink.seen c.args.err.now) (g.E.Sink.seen c.write_piece.new.err) (codes "aadl_fta: cannot read ") (c.args.file.now ++ codes "\n") _ refl c.in_err-write_piece.ensures

pub returns : goal.returns
returns g c =
    wrote_then (λ _. ⊥) c.write_two.result (g.E.Sink.seen c.args.err.now) (g.E.Sink.seen c.write_piece.new.err) (g.E.Sink.seen c.write_two.new.err) (codes "aadl_fta: cannot read ") (c.args.file.now ++ codes "\n") _ refl c.in_ok-write_piece.ensures.0 c.in_ok-write_piece.ensures.1 c.write_two.ensures
