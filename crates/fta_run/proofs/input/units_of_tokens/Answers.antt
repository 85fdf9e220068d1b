use Rattle.std.proofs.Common.{◌≡◌, ◌<◌, ◌+◌, ◌∷◌, [], get_or, length, ap, subst, ◌∙◌, add-one, arith, length-append}
use Rattle.std.proofs.lemmas.Option.{slice_get_within}
use Rattle.phases.specs.inner.Stopped.{status_of}
use Rattle.phases.proofs.Steps.{exits}
use Rattle.fta_run.proofs.Grammars.{more_units, units_stop}
use Rattle.fta_run.proofs.Lacking.{length-zip}
use Rattle.fta_run.proofs.input.units_of_tokens.Goals as goal

pub bounds-lists-file : goal.bounds-lists-file
bounds-lists-file c = omega (arith, length-zip c.args.texts.now c.args.lists.now c.requires.tokens, ap length c.items-lists.ensures.items, c.loop-file-test.true)

pub returns-in_err-units_of_text : goal.returns-in_err-units_of_text
returns-in_err-units_of_text c =
    let texts = c.args.texts.now in
    let lists = c.args.lists.now in
    let file = c.loop-file.file in
    let text = c.index-texts-file.result in
    let list = c.index-lists-file.result in
    let within : file < length texts = omega (arith, c.loop-file-test.true) in
    let is : text ≡ get_or texts file text = c.index-texts-file.is in
    let inside : file < length lists = omega (arith, within, length-zip texts lists c.requires.tokens) in
    let its : list ≡ get_or lists file list = subst (λ ts. list ≡ get_or ts file list) c.items-lists.ensures.items c.index-lists-file.is in
    exits _ _ _ (status_of c.in_err-units_of_text.field-0.0) c.from_residual.result c.from_residual.ensures.1
    (units_stop texts lists c.loop-file.files file text list c.in_err-units_of_text.field-0.0 within is inside its c.loop-file.invariant.each c.in_err-units_of_text.ensures.err)

pub loop-file-preserved : goal.loop-file-preserved
loop-file-preserved c =
    let texts = c.args.texts.now in
    let lists = c.args.lists.now in
    let file = c.loop-file.file in
    let list = c.index-lists-file.result in
    let found = c.in_ok-units_of_text.field-0 in
    let within : file < length lists = omega (arith, c.loop-file-test.true, length-zip texts lists c.requires.tokens) in
    let its : list ≡ get_or lists file list = subst (λ ts. list ≡ get_or ts file list) c.items-lists.ensures.items c.index-lists-file.is in
    let pushed = c.in_ok-push.ensures.ok in
    record {
      count = ap length pushed ∙ length-append c.loop-file.files (found ∷ []) ∙ ap (λ n. n + 1) c.loop-file.invariant.count;
      each = rw (pushed, add-one) (more_units lists c.loop-file.files file list found c.loop-file.invariant.count within its c.in_ok-units_of_text.ensures.ok c.loop-file.invariant.each);
    }

pub returns : goal.returns
returns c =
    let all : length c.loop-file.files ≡ length c.args.lists.now = omega (arith, c.loop-file.invariant.count, c.loop-file-test.false, c.loop-file.auto.file-end, length-zip c.args.texts.now c.args.lists.now c.requires.tokens) in
    record {
      passed = record {
        as_many = all;
        each = λ file list there. c.loop-file.invariant.each file (omega (arith, slice_get_within c.args.lists.now file list there, all, c.loop-file.invariant.count)) list there;
      };
    }
