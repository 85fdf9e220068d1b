use Rattle.std.proofs.Common.{◌≡◌, ◌∷◌, ◌++◌, ℕ, List, codes, ap, sym, ◌∙◌, append_assoc}
use Rattle.std.proofs.lemmas.Result.{err_from_is_err_and}
use Rattle.fta_outside.proofs.Writing.{wrote_not, wrote_then}
use Rattle.fta_run.specs.Line.{stale_text}
use Rattle.fta_run.proofs.line.write_stale.Goals as goal

abbrev first : List ℕ → List ℕ
first token = codes "aadl_fta: K2 StaleToken " ++ token

abbrev second : List ℕ → List ℕ
second input = codes " " ++ (input ++ codes "\n")

whole : (token input : List ℕ) → codes "aadl_fta: " ++ (stale_text token input ++ codes "\n") ≡ first token ++ second input
whole token input =
    ap (λ rest. codes "aadl_fta: K2 StaleToken " ++ rest) (append_assoc token (32 ∷ input) (codes "\n")) ∙ sym (append_assoc (codes "aadl_fta: K2 StaleToken ") token (second input))

pub returns-in_err-write_two : goal.returns-in_err-write_two
returns-in_err-write_two g c =
    let p = err_from_is_err_and c.from_residual.result c.from_residual.ensures.1 in
    wrote_not (λ _. ⊥) c.from_residual.result p.0 p.1 (g.E.Sink.seen c.args.err.now) (g.E.Sink.seen c.write_two.new.err) (first c.args.token.now) (second c.args.input.now) _ (whole c.args.token.now c.args.input.now) c.in_err-write_two.ensures

pub returns : goal.returns
returns g c =
    wrote_then (λ _. ⊥) c.write_input.result (g.E.Sink.seen c.args.err.now) (g.E.Sink.seen c.write_two.new.err) (g.E.Sink.seen c.write_input.new.err) (first c.args.token.now) (second c.args.input.now) _ (whole c.args.token.now c.args.input.now) c.in_ok-write_two.ensures.0 c.in_ok-write_two.ensures.1 c.write_input.ensures
