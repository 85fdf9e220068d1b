use Rattle.std.proofs.Common.{◌≡◌, ◌<◌, ◌+◌, length, get_or, sym, subst, add-one, take}
use Rattle.aadl_lexer.specs.Tokens.{Tokens}
use Rattle.phases.specs.inner.Stopped.{status_of}
use Rattle.phases.proofs.Steps.{exits}
use Rattle.fta_run.specs.Files.{AreTokens}
use Rattle.fta_run.proofs.Lacking.{tokens_stop, zip-more}
use Rattle.fta_run.proofs.input.tokens_of_texts.Goals as goal

pub loop-file-preserved : goal.loop-file-preserved
loop-file-preserved c =
    let texts = c.args.texts.now in
    let file = c.loop-file.file in
    let text = c.index-texts-file.result in
    let within : file < length texts = c.loop-file-test.true in
    let is : text ≡ get_or texts file text = c.index-texts-file.is in
    let more = zip-more Tokens texts c.loop-file.lists file text c.in_ok-tokens_of_text.field-0 within is c.loop-file.invariant c.in_ok-tokens_of_text.ensures.found in
    subst (AreTokens (take (file + 1) texts)) (sym c.in_ok-push.ensures.ok) (rw add-one more)

pub returns-in_err-tokens_of_text : goal.returns-in_err-tokens_of_text
returns-in_err-tokens_of_text c =
    let texts = c.args.texts.now in
    let file = c.loop-file.file in
    let text = c.index-texts-file.result in
    let within : file < length texts = c.loop-file-test.true in
    let is : text ≡ get_or texts file text = c.index-texts-file.is in
    exits _ _ _ (status_of c.in_err-tokens_of_text.field-0.0) c.from_residual.result c.from_residual.ensures.1
    (tokens_stop texts file text c.loop-file.lists c.in_err-tokens_of_text.field-0.0 within is c.loop-file.invariant c.in_err-tokens_of_text.ensures.refused)
