use Rattle.std.proofs.Common.{◌≡◌, ◌++◌, ◌==◌, false, codes, decimal, if◌then◌else◌, [], ap, arith}
use Rattle.std.proofs.lemmas.Bool.Decides.{nat_tests}
use Rattle.fta_outside.proofs.Writing.{wrote_then}
use Rattle.fta_run.proofs.line.write_limit.Goals as goal

pub returns : goal.returns
returns g c =
    let some : (c.args.limit == 0) ≡ false = grind (arith, nat_tests) in
    wrote_then (λ _. ⊥) c.write_piece-2.result (g.E.Sink.seen c.args.err.now) (g.E.Sink.seen c.write_number.new.err) (g.E.Sink.seen c.write_piece-2.new.err) (codes " over " ++ decimal c.args.limit) (codes "\n") _ (ap (λ none. (if none then [] else codes " over " ++ decimal c.args.limit) ++ codes "\n") some) c.in_ok-write_number.ensures.0 c.in_ok-write_number.ensures.1 c.write_piece-2.ensures
