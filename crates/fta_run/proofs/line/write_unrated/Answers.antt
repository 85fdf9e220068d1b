use Rattle.std.proofs.Common.{◌≡◌, ◌++◌, ℕ, List, codes, sym, append_assoc}
use Rattle.std.proofs.lemmas.Result.{err_from_is_err_and}
use Rattle.fta_outside.proofs.Writing.{wrote_not, wrote_then}
use Rattle.fta_run.proofs.line.write_unrated.Goals as goal

abbrev first : List ℕ → List ℕ
first event = codes "aadl_fta: R1 UnratedEvent " ++ event

whole : (event : List ℕ) → codes "aadl_fta: R1 UnratedEvent " ++ (event ++ codes "\n") ≡ first event ++ codes "\n"
whole event = sym (append_assoc (codes "aadl_fta: R1 UnratedEvent ") event (codes "\n"))

pub returns-in_err-write_two : goal.returns-in_err-write_two
returns-in_err-write_two g c =
    let p = err_from_is_err_and c.from_residual.result c.from_residual.ensures.1 in
    wrote_not (λ _. ⊥) c.from_residual.result p.0 p.1 (g.E.Sink.seen c.args.err.now) (g.E.Sink.seen c.write_two.new.err) (first c.args.event.now) (codes "\n") _ (whole c.args.event.now) c.in_err-write_two.ensures

pub returns : goal.returns
returns g c =
    wrote_then (λ _. ⊥) c.write_piece.result (g.E.Sink.seen c.args.err.now) (g.E.Sink.seen c.write_two.new.err) (g.E.Sink.seen c.write_piece.new.err) (first c.args.event.now) (codes "\n") _ (whole c.args.event.now) c.in_ok-write_two.ensures.0 c.in_ok-write_two.ensures.1 c.write_piece.ensures
