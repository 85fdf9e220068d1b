use Rattle.std.proofs.Common.{◌<◌, ◌≤◌, ap, ◌∙◌, length, arith}
use Rattle.std.proofs.lemmas.List.{take_all}
use Rattle.plain_values.specs.Numbered.{numbered_from}
use Rattle.unread_parts.specs.Unread.{told_of}
use Rattle.unread_parts.proofs.Parts.{parts-more}
use Rattle.unread_parts.proofs.unread.unread_parts.Goals as goal

pub loop-number-preserved : goal.loop-number-preserved
loop-number-preserved c =
    let instance = c.args.instance.now in
    let long = ap length c.components-number-end.ensures.components in
    let within : c.loop-number.number < length instance.components = omega (arith, long, c.loop-number-test.true) in
    parts-more c.args.what instance c.loop-number.number within c.loop-number.parts c.add_component.new.parts c.loop-number.invariant c.in_ok-add_component.ensures

pub returns : goal.returns
returns c =
    let instance = c.args.instance.now in
    let long = ap length c.components-number-end.ensures.components in
    let past : length instance.components ≤ c.loop-number.number = omega (arith, long, c.loop-number-test.false) in
    c.loop-number.invariant ∙ ap (numbered_from (told_of c.args.what instance) 0) (take_all c.loop-number.number instance.components past)
