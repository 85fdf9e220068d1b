use Rattle.std.proofs.Common.{refl}
use Rattle.fta_outside.proofs.Writing.{wrote_then}
use Rattle.fta_run.proofs.line.write_two.Goals as goal

pub returns : goal.returns
returns g c =
    wrote_then (λ _. ⊥) c.write_piece-2.result (g.E.Sink.seen c.args.err.now) (g.E.Sink.seen c.write_piece.new.err) (g.E.Sink.seen c.write_piece-2.new.err) c.args.first.now c.args.second.now _ refl c.in_ok-write_piece.ensures.0 c.in_ok-write_piece.ensures.1 c.write_piece-2.ensures
