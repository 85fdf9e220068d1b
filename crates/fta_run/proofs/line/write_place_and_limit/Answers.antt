use Rattle.std.proofs.Common.{◌++◌, codes, refl}
use Rattle.fta_words.specs.inner.Words.{all_names}
use Rattle.fta_run.specs.Line.{limit_text, place_text}
use Rattle.fta_outside.proofs.Writing.{wrote_then}
use Rattle.fta_run.proofs.line.write_place_and_limit.Goals as goal

pub returns : goal.returns
returns g c =
    wrote_then (λ _. ⊥) c.write_limit.result (g.E.Sink.seen c.args.err.now) (g.E.Sink.seen c.write_place.new.err) (g.E.Sink.seen c.write_limit.new.err) (place_text (all_names c.args.files.now) c.args.refusal.now.place) (limit_text c.args.refusal.now.limit ++ codes "\n") _ refl c.in_ok-write_place.ensures.0 c.in_ok-write_place.ensures.1 c.write_limit.ensures
