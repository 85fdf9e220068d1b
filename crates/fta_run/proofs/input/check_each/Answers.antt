use Rattle.std.proofs.Common.{◌≡◌, [], Option, MatchOption, subst}
use Rattle.std.proofs.lemmas.Result.{MatchResult-weaker}
use Rattle.plain_values.specs.declared.refusal.Refusal.{Refusal}
use Rattle.plain_values.specs.Order.{IsFirst, least, nearer}
use Rattle.fta_run.specs.Files.{HasTooLong, too_long, too_long_from}
use Rattle.fta_run.proofs.Inputs.{each_step, each_end}
use Rattle.fta_run.proofs.input.check_each.Goals as goal

pub loop-file-preserved : goal.loop-file-preserved
loop-file-preserved c =
    let noted : c.note_too_long.new.first ≡ nearer c.loop-file.first (least (too_long c.loop-file.file c.index-texts-file.result)) = subst (λ text. c.note_too_long.new.first ≡ nearer c.loop-file.first (least (too_long c.loop-file.file text))) c.items.ensures.items c.note_too_long.ensures in
    each_step c.loop-file.first c.note_too_long.new.first c.loop-file.file c.index-texts-file.result c.args.texts.now _ c.loop-file-test.true c.index-texts-file.is noted c.loop-file.invariant

pub returns : goal.returns
returns c =
    let texts = c.args.texts.now in
    let noted = each_end c.loop-file.first texts c.loop-file.file c.loop-file-test.false c.loop-file.invariant in
    let says = λ (o : Option Refusal). MatchOption o (too_long_from 0 texts ≡ []) (λ refusal. IsFirst (HasTooLong texts) refusal) in
    MatchResult-weaker c.settle.result c.settle.ensures (λ _ none. subst says none noted) (λ refusal first. subst says first noted)
