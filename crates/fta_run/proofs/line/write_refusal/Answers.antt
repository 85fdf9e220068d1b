use Rattle.std.proofs.Common.{◌≡◌, ℕ, List, ◌++◌, codes, sym, ap, ◌∙◌, append_assoc}
use Rattle.std.proofs.lemmas.Result.{err_from_is_err_and}
use Rattle.plain_values.specs.Refusal.{code_text}
use Rattle.fta_words.specs.inner.Words.{all_names}
use Rattle.fta_run.specs.Line.{limit_text, place_text}
use Rattle.fta_outside.proofs.Writing.{wrote_not, wrote_then}
use Rattle.fta_run.proofs.line.write_refusal.Goals as goal

-- the parts of a refusal's line, one after the other
line_parts : (start code place limit end : List ℕ) → start ++ ((code ++ (place ++ limit)) ++ end) ≡ (start ++ code) ++ (place ++ (limit ++ end))
line_parts start code place limit end = simp append_assoc

pub returns-in_err-write_two : goal.returns-in_err-write_two
returns-in_err-write_two g c =
    let refusal = c.args.refusal.now in
    let place = place_text (all_names c.args.files.now) refusal.place in
    let limit = limit_text refusal.limit in
    let code : code_text refusal.code ≡ c.as_bytes.result.now = sym (c.as_bytes.ensures.value ∙ c.text.ensures) in
    let whole = ap (λ text. codes "aadl_fta: " ++ ((text ++ (place ++ limit)) ++ codes "\n")) code ∙ line_parts (codes "aadl_fta: ") c.as_bytes.result.now place limit (codes "\n") in
    let p = err_from_is_err_and c.from_residual.result c.from_residual.ensures.1 in
    wrote_not (λ _. ⊥) c.from_residual.result p.0 p.1 (g.E.Sink.seen c.args.err.now) (g.E.Sink.seen c.write_two.new.err) (codes "aadl_fta: " ++ c.as_bytes.result.now) (place ++ (limit ++ codes "\n")) _ whole c.in_err-write_two.ensures

pub returns : goal.returns
returns g c =
    let refusal = c.args.refusal.now in
    let place = place_text (all_names c.args.files.now) refusal.place in
    let limit = limit_text refusal.limit in
    let code : code_text refusal.code ≡ c.as_bytes.result.now = sym (c.as_bytes.ensures.value ∙ c.text.ensures) in
    let whole = ap (λ text. codes "aadl_fta: " ++ ((text ++ (place ++ limit)) ++ codes "\n")) code ∙ line_parts (codes "aadl_fta: ") c.as_bytes.result.now place limit (codes "\n") in
    wrote_then (λ _. ⊥) c.write_place_and_limit.result (g.E.Sink.seen c.args.err.now) (g.E.Sink.seen c.write_two.new.err) (g.E.Sink.seen c.write_place_and_limit.new.err) (codes "aadl_fta: " ++ c.as_bytes.result.now) (place ++ (limit ++ codes "\n")) _ whole c.in_ok-write_two.ensures.0 c.in_ok-write_two.ensures.1 c.write_place_and_limit.ensures
